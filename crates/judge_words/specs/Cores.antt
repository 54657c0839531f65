-- Names that stand for words: what is known of a core.
use Rattle.std.specs.Prelude.{ℕ, List, [], ◌∷◌, ◌++◌, Option, Some, None, codes}
use Rattle.std.specs.Option.{option_or}
use Rattle.clap.specs.Walk.{Row, first_of}
use Rattle.judge_words.specs.Lists.{value_at}
use Rattle.judge_words.specs.declared.cores.Core.{Core}
use Rattle.judge_words.specs.declared.cores.Core.TheVariants.{Plain, Qemu, Spike, Rocket, Cva6}

unfoldable pub core_names : List (List ℕ × Core)
core_names = (codes "qemu", Qemu) ∷ (codes "spike", Spike) ∷ (codes "rocket", Rocket) ∷ (codes "cva6", Cva6) ∷ []

-- the core that is named, where one is
abbrev pub core_in : Option (List ℕ) → Option Core
core_in None = Some Plain
core_in (Some text) = value_at core_names text

-- options, and the text that stands for each
abbrev pub Words : Type 0
Words = List (List ℕ × List ℕ)

-- where nothing is said; --csr then has no item
unfoldable pub plain_words : Words
plain_words =
    (codes "misaligned", codes "trap")
    ∷ (codes "mtval", codes "value")
    ∷ (codes "ad", codes "fault")
    ∷ (codes "reserve", codes "64")
    ∷ (codes "bits", codes "off")
    ∷ (codes "insn", codes "full")
    ∷ (codes "io-faults", codes "none")
    ∷ (codes "pmp", codes "16")
    ∷ (codes "pmp-bits", codes "54")
    ∷ (codes "lines", codes "0xA88")
    ∷ []

-- the bits that qemu 7.2 lets writes change, as far as a mask may have them
unfoldable pub qemu_registers : List ℕ
qemu_registers =
    codes "mstatus=0x7E7FAA,medeleg=0xF0BFFF,mideleg=0x2222,mie=0x2AAA,mcounteren=0xFFFFFFFF,"
    ++ codes "mcountinhibit=0xFFFFFFFD,menvcfg=0xC0000000000000F1,senvcfg=0xF1,scounteren=0xFFFFFFFF"

-- qemu 7.2
unfoldable pub qemu_words : Words
qemu_words =
    (codes "ad", codes "set")
    ∷ (codes "misaligned", codes "done")
    ∷ (codes "mtval", codes "zero:3")
    ∷ (codes "csr", qemu_registers)
    ∷ []

-- Spike, Rocket and CVA6, as their manuals say
unfoldable pub spike_words : Words
spike_words = (codes "pmp", codes "16") ∷ []

unfoldable pub rocket_words : Words
rocket_words = (codes "pmp", codes "8") ∷ []

unfoldable pub cva6_words : Words
cva6_words = (codes "pmp", codes "8") ∷ []

-- what is known of each core
abbrev pub own_words : Core → Words
own_words Plain = []
own_words Qemu = qemu_words
own_words Spike = spike_words
own_words Rocket = rocket_words
own_words Cva6 = cva6_words

-- what stands for an option that is left out
abbrev pub word_of : Core → List ℕ → Option (List ℕ)
word_of core name = option_or (value_at (own_words core) name) (value_at plain_words name)

-- the text of an option: what is given, else what is known of the core, else what stands where nothing is said
unfoldable pub said : Core → List Row → List ℕ → Option (List ℕ)
said core given name = option_or (first_of name given) (word_of core name)

-- What a guess of a later state takes from a row: the plain rows, which show all that their instructions change, and
-- the state after one. The signals are those of riscv-formal's description of RVFI, the opcodes those of the
-- Unprivileged ISA's chapter "RV32/64G Instruction Set Listings".
use Rattle.std.specs.Prelude.{◌≡◌, ◌<◌, ℕ, zero, suc, ◌+◌, ◌-◌, ◌/◌, ◌%◌, ◌^◌, Bool, true, false, not, ◌&&◌, ◌||◌, ◌==◌}
use Rattle.std.specs.Prelude.{if◌then◌else◌, Option, Some, None, unwrap_or}
use Rattle.std.specs.Option.{is_some}
use Rattle.hart_words.specs.declared.signal.Signal.TheVariants.{Insn, Trap, Intr, Halt, RdAddr, RdWdata, PcRdata}
use Rattle.hart_words.specs.declared.signal.Signal.TheVariants.{PcWdata, MemAddr, MemPaddr, MemWmask, MemWdata}
use Rattle.hart_words.specs.declared.registers.Registers.{Registers}
use Rattle.hart_words.specs.declared.span.Span.{Span}
use Rattle.hart_words.specs.declared.span.TheConstants.{PAGE_SIZE}
use Rattle.hart_words.specs.Memory.{Bytes, bytes_after_store}
use Rattle.hart_words.specs.Registers.{with_register}
use Rattle.hart_words.specs.Signals.{Shown}
use Rattle.hart_words.specs.Spans.{is_in}
use Rattle.csr_file.specs.Fields.{bit_is_set}
use Rattle.rv_decode.specs.declared.operation.Op.{Op}
use Rattle.rv_decode.specs.declared.operation.Op.TheVariants.{Store}
use Rattle.rv_decode.specs.declared.opcodes.TheConstants.{AMO, SYSTEM}
use Rattle.rvfi_rows.specs.Window.{distance_in_window, moved_down}
use Rattle.mem_access.specs.Places.{data_mode_of}
use Rattle.mem_access.specs.Translation.{is_translated}
use Rattle.hart_step.specs.declared.state.Core.{Core}
use Rattle.hart_step.specs.declared.plain_rows.TheConstants.{C_EBREAK}
use Rattle.hart_step.specs.declared.shown_store.ShownStore.{ShownStore}
use Rattle.hart_step.specs.Choices.{shows}
use Rattle.hart_step.specs.Instructions.{op_of}
use Rattle.hart_step.specs.Steps.{core_after_count}

-- the length of the instruction that a word begins with: 4 bytes where its two lowest bits are both 1, else 2
abbrev pub insn_length_of : ℕ → ℕ
insn_length_of word = if word % 4 == 3 then 4 else 2

-- its bits
abbrev pub insn_bits_of : ℕ → ℕ
insn_bits_of word = word % 256 ^ insn_length_of word

-- it is a SYSTEM or AMO instruction, LR and SC among these, or C.EBREAK
abbrev pub is_system_or_atomic : ℕ → Bool
is_system_or_atomic word =
    if insn_length_of word == 2 then insn_bits_of word == C_EBREAK
    else word % 128 == SYSTEM || word % 128 == AMO

-- an operation is a store; a word that means nothing is none
abbrev pub is_store : Option Op → Bool
is_store (Some (Store op rs1 rs2 offset)) = true
is_store _ = false

-- the word that a row shows
abbrev pub insn_shown : Shown → ℕ
insn_shown shown = unwrap_or (shown Insn) 0

-- the row's instruction is a store
unfoldable pub shows_store : Shown → Bool
shows_store shown = let word = insn_shown shown in is_store (op_of (insn_bits_of word) (insn_length_of word))

-- the addresses of loads and stores are translated
abbrev pub translates_data : Core → Bool
translates_data core = is_translated core.csrs (data_mode_of core.csrs core.mode)

-- how many bytes there are from an address to the end of its page
abbrev pub bytes_to_page_end : ℕ → ℕ
bytes_to_page_end address = PAGE_SIZE - address % PAGE_SIZE

-- the bytes that a mask has, counted from an address on, lie in two pages: some before the page's end, and some after
unfoldable pub lies_in_two_pages : ℕ → ℕ → Bool
lies_in_two_pages address mask =
    let here = bytes_to_page_end address in not (mask % 2 ^ here == 0) && not (mask / 2 ^ here == 0)

-- the physical address that a row shows is that of all its bytes
abbrev pub shows_place : Shown → Bool
shows_place shown =
    is_some (shown MemPaddr) && not (lies_in_two_pages (unwrap_or (shown MemAddr) 0) (unwrap_or (shown MemWmask) 0))

-- a store's place and its bytes are known
unfoldable pub shows_bytes : Core → Shown → Bool
shows_bytes core shown =
    is_some (shown MemAddr) && is_some (shown MemWmask) && is_some (shown MemWdata)
    && (not (translates_data core) || shows_place shown)

-- neither a trap nor an interrupt nor a halt is shown
abbrev pub is_undisturbed : Shown → Bool
is_undisturbed shown = not (shows (shown Trap) 1) && not (shows (shown Intr) 1) && not (shows (shown Halt) 1)

-- a valid row is plain for a state
unfoldable pub is_plain : Core → Shown → Bool
is_plain core shown =
    not core.halted && not core.trapped_last && is_undisturbed shown
    && not (is_system_or_atomic (insn_shown shown)) && (not (shows_store shown) || shows_bytes core shown)

-- a value goes to the register that is shown, but not to x0
abbrev pub registers_shown : Registers → Option ℕ → Option ℕ → Registers
registers_shown registers (Some rd) (Some value) = with_register registers rd value
registers_shown registers _ _ = registers

-- the address after the instruction
abbrev pub next_address_shown : Shown → ℕ
next_address_shown shown = (unwrap_or (shown PcRdata) 0 + insn_length_of (insn_shown shown)) % 2 ^ 64

-- the hart goes on at the address that is shown, or else after the instruction; bit 0 is cleared
abbrev pub next_pc_shown : Shown → ℕ
next_pc_shown shown = let next = unwrap_or (shown PcWdata) (next_address_shown shown) in next - next % 2

-- the state after a plain row, but for memory; the order index moves on
unfoldable pub core_shown : Core → Shown → Core
core_shown core shown = record (core_after_count core shown) {
  registers = registers_shown core.registers (shown RdAddr) (shown RdWdata);
  pc = next_pc_shown shown;
}

-- where a store's bytes go, which of the eight do, and the eight
unfoldable pub store_shown : Shown → ShownStore
store_shown shown = record {
  place = unwrap_or (shown MemPaddr) (unwrap_or (shown MemAddr) 0);
  mask = unwrap_or (shown MemWmask) 0;
  value = unwrap_or (shown MemWdata) 0;
}

-- the address of a byte of the eight, by its number
abbrev pub byte_place : ShownStore → ℕ → ℕ
byte_place store number = (store.place + number) % 2 ^ 64

-- the byte is stored: the mask has it, and its place is RAM
abbrev pub stores_byte : Span → ShownStore → ℕ → Bool
stores_byte ram store number = bit_is_set store.mask number && is_in ram (byte_place store number)

-- the bytes after one of the eight
abbrev pub byte_put : Span → ShownStore → ℕ → Bytes → Bytes
byte_put ram store number bytes =
    if stores_byte ram store number then bytes_after_store (byte_place store number) 1 (moved_down store.value number)
    bytes else bytes

-- the bytes after so many of them, one after another
unfoldable pub bytes_put : Span → ShownStore → ℕ → Bytes → Bytes
bytes_put ram store zero bytes = bytes
bytes_put ram store (suc number) bytes = byte_put ram store number (bytes_put ram store number bytes)

-- memory after a plain row
unfoldable pub memory_shown : Core → Shown → Bytes → Bytes
memory_shown core shown bytes =
    if shows_store shown then bytes_put core.map.ram (store_shown shown) 8 bytes else bytes

-- that of the eight bytes which falls at an address, if the mask has it, or else the old one
abbrev pub byte_after : ShownStore → Option ℕ → ℕ → ℕ
byte_after store None old = old
byte_after store (Some away) old = if bit_is_set store.mask away then moved_down store.value away % 256 else old

-- each byte of RAM is that after a store, and every other byte is as before
abbrev pub FallsWhereShown : Span → ShownStore → Bytes → Bytes → ℕ → Type 0
FallsWhereShown ram store before after address =
    after address
    ≡ (if is_in ram address then byte_after store (distance_in_window address 1 store.place) (before address)
    else before address)

-- the pages of the first bytes that are stored are ready
abbrev pub AreReady : (ℕ → Type 0) → Span → ShownStore → ℕ → Type 0
AreReady ready ram store count =
    (number : ℕ) → number < count → stores_byte ram store number ≡ true → ready (byte_place store number / PAGE_SIZE)

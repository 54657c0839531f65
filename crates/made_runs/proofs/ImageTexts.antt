-- What the text of a made image describes.
use Rattle.std.proofs.Common.{◌≡◌, ◌≢◌, ℕ, zero, suc, ◌+◌, ◌*◌, ◌/◌, ◌%◌, ◌^◌, ◌<◌, ◌≤◌, ◌==◌, Bool, true, false, List}
use Rattle.std.proofs.Common.{[], ◌∷◌, ◌++◌, map, get_or, length, Option, Some, None, Ok, refl, sym, ap, ◌∙◌, arith}
use Rattle.std.proofs.Common.{ne_eqb}
use Rattle.std.specs.Prelude.{codes, drop, nat_le, nat_lt, not, slice_index, unwrap_or}
use Rattle.std.specs.Int.{w32, to_le_bytes}
use Rattle.std.specs.List.{All, flat_map, list_all, range_with_len}
use Rattle.std.specs.Str.Parse.{digits_value}
use Rattle.std.proofs.Math.Nat.{mod-eq_of_lt}
use Rattle.std.proofs.lemmas.Bool.{eq-eqb, eqb-false, le-leb, lt-ltb}
use Rattle.std.proofs.lemmas.Bool.Decides.{nat_tests}
use Rattle.std.proofs.lemmas.List.Elements.{All-append, All-cons, All-head, All-nil, All-tail, All-weaker}
use Rattle.std.proofs.lemmas.List.FromFn.{get_or-map-range_with_len}
use Rattle.std.proofs.lemmas.List.Sums.{AllPass-from_list_all}
use Rattle.hex.specs.Hex.{encode_with, encode_lower, lower_digits}
use Rattle.hart_words.specs.declared.map.Map.{Map}
use Rattle.hart_words.specs.declared.span.Span.{Span}
use Rattle.hart_words.specs.Spans.{is_in}
use Rattle.image_text.specs.Bytes.{with_byte}
use Rattle.image_text.specs.Image.{are_digits, bytes_after, bytes_after_word, word_of_token}
use Rattle.image_text.specs.Tokens.{Plain, TokenView, tokens_with_byte, is_blank, runs, tokens_of, uncommented}
use Rattle.image_text.specs.declared.word.Word.TheVariants.{Address, Byte}
use Rattle.trace_maker.specs.Texts.{made_bytes, made_image, made_words, spaced}
use Rattle.made_runs.specs.Images.{IsMadeImage}
use Rattle.made_runs.specs.States.{IsMadeMap}
use Rattle.made_runs.proofs.Numerals.{AllAre, byte_small, digits_back, encoded_plain, pair_back}
use Rattle.made_runs.proofs.PlainLines.{IsPlainByte}

-- no byte of the text begins a comment
abbrev IsNoSlash : ℕ → Type 0
IsNoSlash byte = byte ≢ 47

no_comment : (text : List ℕ) → All IsNoSlash text → uncommented Plain text ≡ text
unfolding uncommented
no_comment [] bytes = refl
no_comment (a ∷ []) bytes = refl
no_comment (a ∷ b ∷ rest) bytes =
    let no : (a == 47) ≡ false = ne_eqb a 47 (All-head IsNoSlash a (b ∷ rest) bytes) in
    rw no (ap (λ (others : List ℕ). a ∷ others) (no_comment (b ∷ rest) (All-tail IsNoSlash a (b ∷ rest) bytes)))

-- the bytes of a token
abbrev IsTokenByte : ℕ → Type 0
IsTokenByte byte = 33 ≤ byte

no_feed : (byte : ℕ) → IsTokenByte byte → (byte == 10) ≡ false
no_feed byte is = ne_eqb byte 10 (omega arith)

not_blank : (byte : ℕ) → IsTokenByte byte → is_blank byte ≡ false
not_blank byte is =
    let space : (byte == 32) ≡ false = ne_eqb byte 32 (omega arith) in
    let tab : (byte == 9) ≡ false = ne_eqb byte 9 (omega arith) in
    let feed : (byte == 10) ≡ false = ne_eqb byte 10 (omega arith) in
    let return : (byte == 13) ≡ false = ne_eqb byte 13 (omega arith) in
    let form : (byte == 12) ≡ false = ne_eqb byte 12 (omega arith) in
    rw (space, tab, feed, return, form) refl

run_step : (line byte : ℕ) (rest : List ℕ) → IsTokenByte byte
    → runs line (byte ∷ rest) ≡ tokens_with_byte line byte rest (runs line rest)
unfolding runs
run_step line byte rest is = rw (not_blank byte is, no_feed byte is) refl

-- a byte before a blank is a token
begun_alone : (line byte blank : ℕ) (rest : List ℕ) (tokens : List TokenView) → is_blank blank ≡ true
    → tokens_with_byte line byte (blank ∷ rest) tokens ≡ record { line = line; bytes = byte ∷ [] } ∷ tokens
begun_alone line byte blank rest [] is = refl
begun_alone line byte blank rest (first ∷ others) is = rw is refl

-- and before a token it begins that one
begun_more : (line byte next : ℕ) (rest word : List ℕ) (others : List TokenView) → IsTokenByte next
    → tokens_with_byte line byte (next ∷ rest) (record { line = line; bytes = word } ∷ others)
    ≡ record { line = line; bytes = byte ∷ word } ∷ others
begun_more line byte next rest word others is = rw (not_blank next is) refl

-- a run of bytes before a blank
run_token : (line byte : ℕ) (word : List ℕ) (blank : ℕ) (rest : List ℕ) → IsTokenByte byte → All IsTokenByte word
    → is_blank blank ≡ true
    → runs line (byte ∷ (word ++ blank ∷ rest)) ≡ record { line = line; bytes = byte ∷ word } ∷ runs line (blank ∷ rest)
run_token line byte [] blank rest is are blank_is =
    run_step line byte (blank ∷ rest) is ∙ begun_alone line byte blank rest (runs line (blank ∷ rest)) blank_is
run_token line byte (next ∷ word) blank rest is are blank_is =
    run_step line byte (next ∷ (word ++ blank ∷ rest)) is
    ∙ ap (λ (tokens : List TokenView). tokens_with_byte line byte (next ∷ (word ++ blank ∷ rest)) tokens)
    (run_token line next word blank rest (All-head IsTokenByte next word are) (All-tail IsTokenByte next word are)
    blank_is)
    ∙ begun_more line byte next (word ++ blank ∷ rest) (next ∷ word) (runs line (blank ∷ rest))
    (All-head IsTokenByte next word are)

-- two digits
abbrev high_of : ℕ → ℕ
high_of byte = slice_index lower_digits (byte / 16)

abbrev low_of : ℕ → ℕ
low_of byte = slice_index lower_digits (byte % 16)

two_digits : (byte : ℕ) → encode_lower (byte ∷ []) ≡ high_of byte ∷ low_of byte ∷ []
unfolding encode_with
two_digits byte = refl

high_plain : (byte : ℕ) → byte < 256 → IsPlainByte (high_of byte)
high_plain byte small =
    All-head IsPlainByte (high_of byte) (low_of byte ∷ [])
    (rw (two_digits byte) at (encoded_plain (byte ∷ []) (small, tt)))

low_plain : (byte : ℕ) → byte < 256 → IsPlainByte (low_of byte)
low_plain byte small =
    All-head IsPlainByte (low_of byte) []
    (All-tail IsPlainByte (high_of byte) (low_of byte ∷ [])
    (rw (two_digits byte) at (encoded_plain (byte ∷ []) (small, tt))))

-- no digit is the mark of an address
no_marks : map (λ d. slice_index lower_digits d == 64) (range_with_len 0 16) ≡ map (λ d. false) (range_with_len 0 16)
no_marks = refl

no_mark : (d : ℕ) → d < 16 → (slice_index lower_digits d == 64) ≡ false
no_mark d small =
    let here : 0 + d ≡ d = omega arith in
    sym (get_or-map-range_with_len (λ (n : ℕ). slice_index lower_digits n == 64) 0 16 d d true small here)
    ∙ ap (λ (xs : List Bool). get_or xs d true) no_marks
    ∙ get_or-map-range_with_len (λ (n : ℕ). false) 0 16 d d true small here

-- the token of a byte
abbrev byte_token : ℕ → TokenView
byte_token byte = record { line = 2; bytes = high_of byte ∷ low_of byte ∷ [] }

-- the texts of bytes, each after a blank, and the last line feed
abbrev after_blanks : List ℕ → List ℕ
after_blanks bytes = flat_map (λ byte. codes " " ++ encode_lower (byte ∷ [])) bytes ++ codes "\n"

none_left : runs 2 (codes "\n") ≡ []
unfolding runs
none_left = refl

over_blank : (rest : List ℕ) → runs 2 (32 ∷ rest) ≡ runs 2 rest
unfolding runs
over_blank rest = refl

tokens_after : (byte : ℕ) (bytes : List ℕ) → AllAre (byte ∷ bytes)
    → runs 2 (high_of byte ∷ low_of byte ∷ after_blanks bytes) ≡ map byte_token (byte ∷ bytes)
unfolding encode_with
tokens_after byte [] small =
    run_token 2 (high_of byte) (low_of byte ∷ []) 10 [] (omega (arith, (high_plain byte small.0).0))
    (All-cons IsTokenByte (low_of byte) [] (omega (arith, (low_plain byte small.0).0)) (All-nil IsTokenByte)) refl
    ∙ ap (λ (others : List TokenView). byte_token byte ∷ others) none_left
tokens_after byte (next ∷ bytes) small =
    run_token 2 (high_of byte) (low_of byte ∷ []) 32 (high_of next ∷ low_of next ∷ after_blanks bytes)
    (omega (arith, (high_plain byte small.0).0))
    (All-cons IsTokenByte (low_of byte) [] (omega (arith, (low_plain byte small.0).0)) (All-nil IsTokenByte)) refl
    ∙ ap (λ (others : List TokenView). byte_token byte ∷ others)
    (over_blank (high_of next ∷ low_of next ∷ after_blanks bytes) ∙ tokens_after next bytes small.1)

-- the words of tokens
word_is : (byte : ℕ) → byte < 256 → word_of_token (byte_token byte).bytes ≡ Ok (Byte byte)
unfolding word_of_token encode_with
word_is byte small =
    let mark : (high_of byte == 64) ≡ false = no_mark (byte / 16) (omega arith) in
    let low : 48 ≤ high_of byte = (high_plain byte small).0 in
    let slash : (high_of byte == 47) ≡ false = ne_eqb (high_of byte) 47 (omega arith) in
    let digits : are_digits (high_of byte ∷ low_of byte ∷ []) ≡ true = digits_back (byte ∷ []) (small, tt) in
    let none : 0 * 256 + byte ≡ byte = omega arith in
    let value : digits_value 16 (high_of byte ∷ low_of byte ∷ []) ≡ byte = pair_back byte 0 small ∙ none in
    rw (mark, slash, digits, value) refl

address_is : word_of_token (codes "@80000000") ≡ Ok (Address 0x80000000)
unfolding word_of_token
address_is = refl

is_in_ram : (ram : Span) (address : ℕ) → ram.base ≡ 0x80000000 → ram.size ≡ 0x8000000 → 0x80000000 ≤ address
    → address < 0x88000000 → is_in ram address ≡ true
is_in_ram ram address base size low high =
    let above : nat_le ram.base address ≡ true = le-leb ram.base address (omega arith) in
    let below : nat_lt address (ram.base + ram.size) ≡ true = lt-ltb address (ram.base + ram.size) (omega arith) in
    rw (above, below) refl

-- what bytes one after another make of a memory that has none there
record IsLaid (ram : Span) (before : ℕ → Option ℕ) (address : ℕ) (bytes : List ℕ) : Type 0 where
  laid : ℕ → Option ℕ
  is : bytes_after ram before address (map byte_token bytes) ≡ Ok laid
  kept : (other : ℕ) → other < address → laid other ≡ before other
  put : (place : ℕ) → place < length bytes → laid (address + place) ≡ Some (slice_index bytes place)

-- so many bytes have room from an address on: they lie in RAM, and nothing is there yet
record HasRoom (ram : Span) (before : ℕ → Option ℕ) (address len : ℕ) : Type 0 where
  inside : (other : ℕ) → address ≤ other → other < address + len → is_in ram other ≡ true
  free : (other : ℕ) → address ≤ other → before other ≡ None
  narrow : address + len < 2 ^ 64

with_other : (bytes : ℕ → Option ℕ) (address byte other : ℕ) → other ≢ address
    → with_byte bytes address byte other ≡ bytes other
with_other bytes address byte other apart = rw (ne_eqb other address apart) refl

with_same : (bytes : ℕ → Option ℕ) (address byte : ℕ) → with_byte bytes address byte address ≡ Some byte
with_same bytes address byte = rw (eq-eqb address address refl) refl

laid_from : (ram : Span) (before : ℕ → Option ℕ) (address : ℕ) (bytes : List ℕ)
    → HasRoom ram before address (length bytes) → AllAre bytes → IsLaid ram before address bytes
unfolding bytes_after bytes_after_word
laid_from ram before address [] room small =
    record {
      laid =
          before;
      is = refl;
      kept = λ other below. refl;
      put = λ place inside. absurd (omega (arith, inside));
    }
laid_from ram before address (byte ∷ bytes) room small =
    let more =
    laid_from ram (with_byte before address byte) (address + 1) bytes
    (record {
      inside = λ other from below. room.inside other (omega (arith, from)) (omega (arith, below));
      free =
          λ other from. with_other before address byte other (omega (arith, from))
          ∙ room.free other (omega (arith, from));
      narrow = omega (arith, room.narrow);
    })
    small.1 in
    record {
      laid = more.laid;
      is = byte_put ∙ more.is;
      kept =
          λ other below. more.kept other (omega (arith, below))
          ∙ with_other before address byte other (omega (arith, below));
      put = put_at more.laid more.kept more.put;
    }
  where
    byte_put : bytes_after ram before address (map byte_token (byte ∷ bytes))
        ≡ bytes_after ram (with_byte before address byte) (address + 1) (map byte_token bytes)
    byte_put =
        let next : (address + 1) % 2 ^ 64 ≡ address + 1 = mod-eq_of_lt (omega (arith, room.narrow)) in
        let inside : is_in ram address ≡ true = room.inside address (omega arith) (omega arith) in
        let free : before address ≡ None = room.free address (omega arith) in
        rw (word_is byte small.0, inside, free, next) refl

    put_at : (laid : ℕ → Option ℕ)
        → ((other : ℕ) → other < address + 1 → laid other ≡ with_byte before address byte other)
        → ((place : ℕ) → place < length bytes → laid (address + 1 + place) ≡ Some (slice_index bytes place))
        → (place : ℕ) → place < length (byte ∷ bytes)
        → laid (address + place) ≡ Some (slice_index (byte ∷ bytes) place)
    put_at laid kept put zero inside =
        let here : address + 0 ≡ address = omega arith in
        ap laid here ∙ kept address (omega arith) ∙ with_same before address byte
    put_at laid kept put (suc place) inside =
        let here : address + suc place ≡ address + 1 + place = omega arith in
        ap laid here ∙ put place (omega arith)

-- the bytes of the image
words_small : (words : List ℕ) → AllAre (flat_map (to_le_bytes w32) words)
words_small [] = tt
words_small (word ∷ words) =
    (byte_small 0 word, (byte_small 1 word, (byte_small 2 word, (byte_small 3 word, words_small words))))

-- no byte of the text is a slash
no_slash_before : list_all (λ byte. not (byte == 47)) (codes "@80000000\n") ≡ true
no_slash_before = refl

is_not : (test : Bool) → not test ≡ true → test ≡ false
is_not true is = cc is
is_not false is = refl

plain_no_slash : (byte : ℕ) → IsPlainByte byte → IsNoSlash byte
plain_no_slash byte is = omega (arith, is.0)

two_no_slash : (byte : ℕ) (rest : List ℕ) → byte < 256 → All IsNoSlash rest
    → All IsNoSlash (high_of byte ∷ low_of byte ∷ rest)
two_no_slash byte rest small others =
    All-cons IsNoSlash (high_of byte) (low_of byte ∷ rest) (plain_no_slash (high_of byte) (high_plain byte small))
    (All-cons IsNoSlash (low_of byte) rest (plain_no_slash (low_of byte) (low_plain byte small)) others)

blanks_no_slash : (bytes : List ℕ) → AllAre bytes → All IsNoSlash (after_blanks bytes)
unfolding encode_with
blanks_no_slash [] small = All-cons IsNoSlash 10 [] (omega arith) (All-nil IsNoSlash)
blanks_no_slash (byte ∷ bytes) small =
    All-cons IsNoSlash 32 (high_of byte ∷ low_of byte ∷ after_blanks bytes) (omega arith)
    (two_no_slash byte (after_blanks bytes) small.0 (blanks_no_slash bytes small.1))

-- the token of the address
abbrev address_token : TokenView
address_token = record { line = 1; bytes = codes "@80000000" }

feed_counts : (rest : List ℕ) → runs 1 (10 ∷ rest) ≡ runs 2 rest
unfolding runs
feed_counts rest = refl

-- the tokens of a text of an address and bytes
text_tokens : (byte : ℕ) (bytes : List ℕ) → AllAre (byte ∷ bytes)
    → tokens_of (codes "@80000000\n" ++ (spaced (byte ∷ bytes) ++ codes "\n")) ≡ address_token
    ∷ map byte_token (byte ∷ bytes)
unfolding encode_with
text_tokens byte bytes small =
    let rest : List ℕ = high_of byte ∷ low_of byte ∷ after_blanks bytes in
    let before : All IsNoSlash (codes "@80000000\n") =
    All-weaker (λ (b : ℕ). not (b == 47) ≡ true) IsNoSlash (λ b is. eqb-false b 47 (is_not (b == 47) is))
    (codes "@80000000\n")
    (AllPass-from_list_all (λ (b : ℕ). not (b == 47)) (codes "@80000000\n") no_slash_before) in
    let plain =
    no_comment (codes "@80000000\n" ++ rest)
    (All-append IsNoSlash (codes "@80000000\n") rest before
    (two_no_slash byte (after_blanks bytes) small.0 (blanks_no_slash bytes small.1))) in
    ap (λ (text : List ℕ). runs 1 text) plain
    ∙ run_token 1 64 (codes "80000000") 10 rest (omega arith)
    (All-weaker (λ (b : ℕ). nat_le 33 b ≡ true) IsTokenByte (λ b is. grind (arith, nat_tests)) (codes "80000000")
    (AllPass-from_list_all (λ (b : ℕ). nat_le 33 b) (codes "80000000") refl)) refl
    ∙ ap (λ (others : List TokenView). address_token ∷ others) (feed_counts rest ∙ tokens_after byte bytes small)

image_tokens : (number : ℕ) → tokens_of (made_image number) ≡ address_token ∷ map byte_token (made_bytes number)
unfolding made_image
image_tokens number =
    text_tokens (slice_index (made_bytes number) 0) (drop 1 (made_bytes number)) (words_small (made_words number))

address_first : (ram : Span) (tokens : List TokenView)
    → bytes_after ram (λ _. None) 0 (address_token ∷ tokens) ≡ bytes_after ram (λ _. None) 0x80000000 tokens
unfolding bytes_after bytes_after_word
address_first ram tokens = rw address_is refl

pub image_read : (map : Map) (number : ℕ) → IsMadeMap map → IsMadeImage map number
image_read map number is =
    let laid : IsLaid map.ram (λ _. None) 0x80000000 (made_bytes number) =
    laid_from map.ram (λ _. None) 0x80000000 (made_bytes number)
    (record {
      inside = λ other from below. is_in_ram map.ram other is.base is.size from (omega (arith, below));
      free = λ other from. refl;
      narrow = omega arith;
    })
    (words_small (made_words number)) in
    record {
      bytes = laid.laid;
      image =
          ap (λ (tokens : List TokenView). bytes_after map.ram (λ _. None) 0 tokens) (image_tokens number)
          ∙ address_first map.ram _ ∙ laid.is;
      has_image = λ place inside. ap (λ (byte : Option ℕ). unwrap_or byte 0) (laid.put place inside);
    }

pub image_len : (number : ℕ) → length (made_image number) ≡ 82
unfolding made_image encode_with
image_len number = refl

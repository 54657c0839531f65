-- The words of the image in memory.
use Rattle.std.proofs.Common.{◌≡◌, ℕ, ◌+◌, ◌*◌, ◌/◌, ◌%◌, ◌^◌, refl, arith}
use Rattle.hart_words.specs.Memory.{Bytes, number_at}
use Rattle.trace_maker.specs.Rows.{addi_of}
use Rattle.made_runs.specs.States.{HasImage}

-- a word of four bytes stands at an address
pub record IsWordAt (bytes : Bytes) (pc word : ℕ) : Type 0 where
  pub long : number_at bytes pc 2 % 4 ≡ 3
  pub whole : number_at bytes pc 2 + 2 ^ 16 * number_at bytes ((pc + 2) % 2 ^ 64) 2 ≡ word

pub auipc_at : (number : ℕ) (bytes : Bytes) → HasImage number bytes → IsWordAt bytes 0x80000000 0x00001117
unfolding number_at
auipc_at number bytes image =
    let b0 : bytes 0x80000000 ≡ 0x17 = image 0 (omega arith) in
    let b1 : bytes 0x80000001 ≡ 0x11 = image 1 (omega arith) in
    let b2 : bytes 0x80000002 ≡ 0 = image 2 (omega arith) in
    let b3 : bytes 0x80000003 ≡ 0 = image 3 (omega arith) in
    record { long = rw (b0, b1) refl; whole = rw (b0, b1, b2, b3) refl }

pub addi_at : (number : ℕ) (bytes : Bytes) → HasImage number bytes → IsWordAt bytes 0x80000004 (addi_of number)
unfolding number_at
addi_at number bytes image =
    let b0 : bytes 0x80000004 ≡ addi_of number % 256 = image 4 (omega arith) in
    let b1 : bytes 0x80000005 ≡ addi_of number / 256 % 256 = image 5 (omega arith) in
    let b2 : bytes 0x80000006 ≡ addi_of number / 65536 % 256 = image 6 (omega arith) in
    let b3 : bytes 0x80000007 ≡ addi_of number / 16777216 % 256 = image 7 (omega arith) in
    record { long = rw (b0, b1) (omega arith); whole = rw (b0, b1, b2, b3) (omega arith) }

pub xor_at : (number : ℕ) (bytes : Bytes) → HasImage number bytes → IsWordAt bytes 0x80000008 0x0011c1b3
unfolding number_at
xor_at number bytes image =
    let b0 : bytes 0x80000008 ≡ 0xb3 = image 8 (omega arith) in
    let b1 : bytes 0x80000009 ≡ 0xc1 = image 9 (omega arith) in
    let b2 : bytes 0x8000000a ≡ 0x11 = image 10 (omega arith) in
    let b3 : bytes 0x8000000b ≡ 0 = image 11 (omega arith) in
    record { long = rw (b0, b1) refl; whole = rw (b0, b1, b2, b3) refl }

pub sd_at : (number : ℕ) (bytes : Bytes) → HasImage number bytes → IsWordAt bytes 0x8000000c 0x00313023
unfolding number_at
sd_at number bytes image =
    let b0 : bytes 0x8000000c ≡ 0x23 = image 12 (omega arith) in
    let b1 : bytes 0x8000000d ≡ 0x30 = image 13 (omega arith) in
    let b2 : bytes 0x8000000e ≡ 0x31 = image 14 (omega arith) in
    let b3 : bytes 0x8000000f ≡ 0 = image 15 (omega arith) in
    record { long = rw (b0, b1) refl; whole = rw (b0, b1, b2, b3) refl }

pub ld_at : (number : ℕ) (bytes : Bytes) → HasImage number bytes → IsWordAt bytes 0x80000010 0x00013203
unfolding number_at
ld_at number bytes image =
    let b0 : bytes 0x80000010 ≡ 0x03 = image 16 (omega arith) in
    let b1 : bytes 0x80000011 ≡ 0x32 = image 17 (omega arith) in
    let b2 : bytes 0x80000012 ≡ 0x01 = image 18 (omega arith) in
    let b3 : bytes 0x80000013 ≡ 0 = image 19 (omega arith) in
    record { long = rw (b0, b1) refl; whole = rw (b0, b1, b2, b3) refl }

pub jal_at : (number : ℕ) (bytes : Bytes) → HasImage number bytes → IsWordAt bytes 0x80000014 0xff1ff06f
unfolding number_at
jal_at number bytes image =
    let b0 : bytes 0x80000014 ≡ 0x6f = image 20 (omega arith) in
    let b1 : bytes 0x80000015 ≡ 0xf0 = image 21 (omega arith) in
    let b2 : bytes 0x80000016 ≡ 0x1f = image 22 (omega arith) in
    let b3 : bytes 0x80000017 ≡ 0xff = image 23 (omega arith) in
    record { long = rw (b0, b1) refl; whole = rw (b0, b1, b2, b3) refl }

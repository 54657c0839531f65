-- Who wrote what a row read.
use Rattle.std.specs.Prelude.{ℕ, List, map, take, Option}
use Rattle.row_origin.specs.declared.origins.ByteOrigin.{ByteOrigin}
use Rattle.row_origin.specs.declared.origins.Origins.{Origins}
use Rattle.row_origin.specs.declared.origins.RegisterOrigin.{RegisterOrigin}
use Rattle.row_origin.specs.Sources.{addresses_of, loaded_by, sources_of, writes_byte, writes_register}
use Rattle.row_origin.specs.Trails.{RowFacts, Trail, last_row}

-- the last row of a hart whose step wrote a register
abbrev pub register_row : ℕ → ℕ → Trail → Option ℕ
register_row hart number trail = last_row (writes_register hart number) trail

-- the last row of any hart whose step wrote the byte at an address
abbrev pub byte_row : ℕ → Trail → Option ℕ
byte_row address trail = last_row (writes_byte address) trail

-- for each register that a row read, and each byte of RAM that its data access read, the row that wrote it
pub record OriginsView : Type 0 where
  pub registers : List RegisterOrigin
  pub bytes : List ByteOrigin

abbrev pub register_origins : (ℕ → Option ℕ) → List ℕ → List RegisterOrigin
register_origins rows numbers = map (λ number. record { number = number; row = rows number }) numbers

abbrev pub byte_origins : (ℕ → Option ℕ) → List ℕ → List ByteOrigin
byte_origins rows addresses = map (λ address. record { address = address; row = rows address }) addresses

-- of a row, given what the rows before it did
abbrev pub origins_of : Trail → RowFacts → OriginsView
origins_of trail facts = record {
  registers = register_origins (λ number. register_row facts.hart number trail) (sources_of facts.expected);
  bytes = byte_origins (λ address. byte_row address trail) (addresses_of (loaded_by facts.expected facts.reads));
}

-- what origins hold: the front of each array
abbrev pub registers_in : Origins → List RegisterOrigin
registers_in origins = take origins.register_count origins.registers

abbrev pub bytes_in : Origins → List ByteOrigin
bytes_in origins = take origins.byte_count origins.bytes

abbrev pub origins_in : Origins → OriginsView
origins_in origins = record { registers = registers_in origins; bytes = bytes_in origins }

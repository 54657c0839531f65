-- The text and the status that a run ends with.
use Rattle.std.specs.Prelude.{ℕ, List, [], ◌++◌, Option, Some, None, codes, decimal}
use Rattle.hart_words.specs.declared.signal.Difference.{Difference}
use Rattle.hart_words.specs.SignalNames.{name_of}
use Rattle.elf_image.specs.declared.fault.ElfFault.{ElfFault}
use Rattle.elf_image.specs.declared.fault.ElfFault.TheVariants as elf
use Rattle.image_text.specs.declared.fault.FaultKind.{FaultKind}
use Rattle.image_text.specs.declared.fault.FaultKind.TheVariants.{BadByte, BadAddress, OutsideRam, Overlap, OpenComment}
use Rattle.image_text.specs.declared.fault.ImageFault.{ImageFault}
use Rattle.row_origin.specs.Origins.{OriginsView}
use Rattle.rvfi_rows.specs.declared.column.Column.{Column}
use Rattle.rvfi_rows.specs.declared.column.Port.{Port}
use Rattle.rvfi_rows.specs.declared.column.Port.TheVariants.{Zero, One, Two, Three}
use Rattle.rvfi_rows.specs.declared.fault.HeaderFault.{HeaderFault}
use Rattle.rvfi_rows.specs.declared.fault.HeaderFault.TheVariants as header
use Rattle.rvfi_rows.specs.declared.fault.RowFault.{RowFault}
use Rattle.rvfi_rows.specs.declared.fault.RowFault.TheVariants as row
use Rattle.rvfi_rows.specs.declared.verdict.Verdict.{Verdict}
use Rattle.rvfi_rows.specs.declared.verdict.Verdict.TheVariants.{Agrees, Differs, Refused}
use Rattle.state_text.specs.declared.fault.FaultKind.{FaultKind as StateFaultKind}
use Rattle.state_text.specs.declared.fault.FaultKind.TheVariants as state
use Rattle.state_text.specs.declared.fault.StateFault.{StateFault}
use Rattle.state_text.specs.declared.fault.StateFault.TheVariants.{WrongHarts, InLine}
use Rattle.trace_report.specs.declared.outcome.Outcome.{Outcome}
use Rattle.trace_report.specs.declared.outcome.Made.{Made}
use Rattle.trace_report.specs.declared.outcome.Ruling.{Ruling}
use Rattle.trace_report.specs.declared.outcome.Ruling.TheVariants as rulings
use Rattle.trace_report.specs.Numerals.{hexadecimal}
use Rattle.trace_report.specs.Origins.{origins_text}

-- what a fault of an image is called
abbrev pub kind_text : FaultKind → List ℕ
kind_text BadByte = codes ": bad byte\n"
kind_text BadAddress = codes ": bad address\n"
kind_text OutsideRam = codes ": outside RAM\n"
kind_text Overlap = codes ": overlap\n"
kind_text OpenComment = codes ": open comment\n"

-- the line for a fault of the image
unfoldable pub image_fault_text : ImageFault → List ℕ
image_fault_text fault =
    codes "refused image: line " ++ decimal fault.line ++ kind_text fault.kind

-- a segment, and what is wrong with it
abbrev pub segment_text : ℕ → List ℕ → List ℕ
segment_text index end = codes "refused image: elf segment " ++ decimal index ++ end

-- the line for a fault of an ELF file
unfoldable pub elf_fault_text : ElfFault → List ℕ
elf_fault_text elf.CutShort = codes "refused image: elf cut short\n"
elf_fault_text elf.WrongKind = codes "refused image: elf of another kind\n"
elf_fault_text elf.BadTable = codes "refused image: elf table size\n"
elf_fault_text elf.BadEntry = codes "refused image: elf entry odd\n"
elf_fault_text (elf.BadSegment index) = segment_text index (codes ": bad size\n")
elf_fault_text (elf.OutsideRam index) = segment_text index (codes ": outside RAM\n")
elf_fault_text (elf.Overlap index) = segment_text index (codes ": overlap\n")

-- what a fault of a saved state is called
abbrev pub state_kind_text : StateFaultKind → List ℕ
state_kind_text state.BadLine = codes ": bad line\n"
state_kind_text state.BadValue = codes ": bad value\n"
state_kind_text state.OutsideRam = codes ": outside RAM\n"

-- the line for a fault of a saved state
unfoldable pub state_fault_text : StateFault → List ℕ
state_fault_text WrongHarts = codes "refused image: wrong number of harts\n"
state_fault_text (InLine kind line) = codes "refused image: line " ++ decimal line ++ state_kind_text kind

-- what a refusal puts after a column's name: the suffix of its port, and nothing for port 0
abbrev pub port_text : Port → List ℕ
port_text Zero = []
port_text One = codes "_1"
port_text Two = codes "_2"
port_text Three = codes "_3"

-- the name of a column in a refusal
abbrev pub column_name : Column → List ℕ
column_name column = name_of column.signal ++ port_text column.port

-- the line for a fault of the header
unfoldable pub header_fault_text : HeaderFault → List ℕ
header_fault_text header.StrayReturn = codes "refused trace: stray return in header\n"
header_fault_text (header.Twice column) =
    codes "refused trace: column " ++ column_name column ++ codes " twice\n"
header_fault_text (header.NoColumn column) =
    codes "refused trace: no column " ++ column_name column ++ codes "\n"

-- a column, and what is wrong with it
abbrev pub column_text : Column → List ℕ → List ℕ
column_text column end = codes ": " ++ column_name column ++ end

-- what is wrong with a row, after its number
unfoldable pub row_fault_text : RowFault → List ℕ
row_fault_text row.StrayReturn = codes ": stray return\n"
row_fault_text row.FieldCount = codes ": wrong number of fields\n"
row_fault_text (row.Empty column) = column_text column (codes " empty\n")
row_fault_text (row.NotNumber column) = column_text column (codes " not a number\n")
row_fault_text (row.TooWide column) = column_text column (codes " too wide\n")
row_fault_text row.NoHart = codes ": hart not there\n"

-- the signal in which a row differs, after its number, and both values. It is the signal of the row, whatever its port
unfoldable pub difference_text : Difference → List ℕ
difference_text difference =
    codes ": " ++ name_of difference.signal
    ++ codes " expected " ++ hexadecimal difference.expected
    ++ codes " found " ++ hexadecimal difference.found
    ++ codes "\n"

-- the line for a verdict
unfoldable pub verdict_text : Verdict → List ℕ
verdict_text (Agrees rows valid) = codes "agrees " ++ decimal valid ++ codes "\n"
verdict_text (Differs row difference) =
    codes "differs row " ++ decimal row ++ difference_text difference
verdict_text (Refused row fault) =
    codes "refused trace: row " ++ decimal row ++ row_fault_text fault

-- the line for a ruling
unfoldable pub ruling_text : Ruling → List ℕ
ruling_text rulings.NoJob = codes "refused words\n"
ruling_text (rulings.ImageTooLarge most) =
    codes "refused image: more than " ++ decimal most ++ codes " bytes\n"
ruling_text (rulings.ImageFault fault) = image_fault_text fault
ruling_text (rulings.ElfFault fault) = elf_fault_text fault
ruling_text (rulings.StateFault fault) = state_fault_text fault
ruling_text rulings.NoHeader = codes "refused trace: no header\n"
ruling_text (rulings.HeaderFault fault) = header_fault_text fault
ruling_text (rulings.TooLong line) = codes "refused trace: line " ++ decimal line ++ codes " too long\n"
ruling_text (rulings.TraceTooLarge most) =
    codes "refused trace: more than " ++ decimal most ++ codes " bytes\n"
ruling_text (rulings.Verdict verdict) = verdict_text verdict

-- the two numbers of what was made go before the line
abbrev pub made_text : Option Made → List ℕ
made_text None = []
made_text (Some made) =
    codes "made " ++ decimal made.number ++ codes " " ++ decimal made.rows ++ codes ": "

-- the one line of an outcome
unfoldable pub report_of : Outcome → List ℕ
report_of outcome = made_text outcome.made ++ ruling_text outcome.ruling

-- the line of an outcome, and after it, where they are asked for, the lines that say who wrote what a row read
abbrev pub report_with : Outcome → Option OriginsView → List ℕ
report_with outcome None = report_of outcome
report_with outcome (Some origins) = report_of outcome ++ origins_text origins

-- the status of a verdict
abbrev pub verdict_status : Verdict → ℕ
verdict_status (Agrees rows valid) = 0
verdict_status (Differs row difference) = 1
verdict_status (Refused row fault) = 4

-- 0 agrees, 1 differs, 2 refused words, 3 refused image, 4 refused trace
abbrev pub ruling_status : Ruling → ℕ
ruling_status rulings.NoJob = 2
ruling_status (rulings.ImageTooLarge most) = 3
ruling_status (rulings.ImageFault fault) = 3
ruling_status (rulings.ElfFault fault) = 3
ruling_status (rulings.StateFault fault) = 3
ruling_status rulings.NoHeader = 4
ruling_status (rulings.HeaderFault fault) = 4
ruling_status (rulings.TooLong line) = 4
ruling_status (rulings.TraceTooLarge most) = 4
ruling_status (rulings.Verdict verdict) = verdict_status verdict

abbrev pub status_of : Outcome → ℕ
status_of outcome = ruling_status outcome.ruling

-- Files in memory.
use Rattle.std.specs.Prelude.{ℕ, ◌-◌, min, List, length, nat_eq, find, Option, Some, None, option_map, string_bytes}
use Rattle.std.specs.Cmp.Lexicographic.{pointwise}
use Rattle.outside_ports.specs.Ports.{Files}
use Rattle.outside_ports.specs.declared.files.NamedFile.{NamedFile}

-- the files of a list: the first of a name counts
abbrev pub files_of : List NamedFile → Files
files_of files name =
    option_map (λ file. file.bytes.items) (find (λ file. pointwise nat_eq (string_bytes file.name) name) files)

-- a shelf in memory tells its files
abbrev pub known_files_of : List NamedFile → Option Files
known_files_of files = Some (files_of files)

-- how many bytes a read gives: all that are left of the file from a place on, or as many as fit
abbrev pub count_from : Option (List ℕ) → ℕ → ℕ → ℕ
count_from None at room = 0
count_from (Some file) at room = min (length file - at) room

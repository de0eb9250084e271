-- How many bytes a list of pairs takes at most, as of properties or of the entries of a directory.
use Rattle.std.specs.Prelude.{◌+◌, ℕ, List, length, sum_by}
use Rattle.fsfs_revision.specs.Shows.Reading.{Pairs, DirEntry}

-- how many bytes a pair has at most in a dump, where its lengths are numbers of 64 bits
abbrev pub pair_room : List ℕ × List ℕ → ℕ
pair_room p = length p.0 + length p.1 + 48

abbrev pub pairs_room : Pairs → ℕ
pairs_room pairs = sum_by pair_room pairs

-- and that of an entry: an id has 112 bytes at most
abbrev pub entry_room : DirEntry → ℕ
entry_room e = length e.name + 165

abbrev pub entries_room : List DirEntry → ℕ
entries_room entries = sum_by entry_room entries

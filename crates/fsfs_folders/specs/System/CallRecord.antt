-- The record of bare calls of the system, made on what stands below one folder: what a call asks for, and what stands after all.
use Rattle.std.specs.Prelude.{◌≡◌, ◌⊎◌, ◌^◌, nat_le, ℕ, suc, List, [], ◌∷◌, ◌++◌, length, Bool, true, false, not, cond, ◌==◌, ◌||◌, ◌&&◌, if◌then◌else◌, Option, Some, None, option_map, is_some, IsSome}
use Rattle.fsfs_base.specs.Files.{NamedFile, same_text}
use Rattle.fsfs_folders.specs.System.Paths.{has_path, is_below}

-- the bytes of a file, how many of them are firm, and whether a sync of it failed
pub record Contents : Type 0 where
  pub bytes : List ℕ
  pub firm : ℕ
  pub is_lost : Bool

-- A change of names: a folder or an empty file that is made, a folder that is dropped, a file of a part that gets a name here, one
-- that gets another name, each in place of the file that had that name, a file's name that is taken away.
pub data NameCall : Type 0 where
  MakeFolder : List ℕ → NameCall
  DropFolder : List ℕ → NameCall
  Create : List ℕ → NameCall
  Take : List ℕ → Contents → NameCall
  Rename : List ℕ → List ℕ → NameCall
  Remove : List ℕ → NameCall

-- A call that did something. A file goes by its number, which it keeps whatever names it has or loses.
-- `FailSync` is a sync of a file that failed: what was written to it may be lost, and no later sync says otherwise.
-- `Firmed` is no call of the system: the caller says that it has made all names firm.
pub data Call : Type 0 where
  Named : NameCall → Call
  Append : ℕ → List ℕ → Call
  SyncFile : ℕ → Call
  FailSync : ℕ → Call
  SyncFolder : List ℕ → Call
  Firmed : Call

-- what stood before the first call, all of it firm
pub record Beginning : Type 0 where
  pub folders : List (List ℕ)
  pub files : List NamedFile

-- the calls that did something, the newest first
pub record CallRecord : Type 0 where
  pub first : Beginning
  pub calls : List Call

-- which paths are folders, and the numbers of the files that have names
pub record Standing : Type 0 where
  pub folders : List ℕ → Bool
  pub files : List ℕ → Option ℕ

-- a path with this file, or with none
abbrev pub given : List ℕ → Option ℕ → (List ℕ → Option ℕ) → List ℕ → Option ℕ
given path file files q = cond (same_text q path) file (files q)

-- the files of the beginning are numbered from the list's end on
abbrev pub first_number : List NamedFile → List ℕ → Option ℕ
first_number [] q = None
first_number (file ∷ files) q = cond (same_text q file.0) (Some (length files)) (first_number files q)

abbrev pub first_bytes : List NamedFile → ℕ → List ℕ
first_bytes [] number = []
first_bytes (file ∷ files) number = if number == length files then file.1 else first_bytes files number

abbrev pub first_names : Beginning → Standing
first_names first = record { folders = has_path first.folders; files = first_number first.files }

-- how many files there were; a new one gets this number
abbrev pub file_count : Beginning → List Call → ℕ
file_count first [] = length first.files
file_count first (Named (Create path) ∷ calls) = suc (file_count first calls)
file_count first (Named (Take path contents) ∷ calls) = suc (file_count first calls)
file_count first (call ∷ calls) = file_count first calls

-- What a change makes of names that stand as `was`. `now` are the names that the call met: a rename moves the file that had the name
-- then. `number` is that of a new file.
abbrev pub renamed_by : NameCall → ℕ → Standing → Standing → Standing
renamed_by (MakeFolder path) number now was = record was { folders = λ q. same_text q path || was.folders q }
renamed_by (DropFolder path) number now was = record was { folders = λ q. not (same_text q path) && was.folders q }
renamed_by (Create path) number now was = record was { files = given path (Some number) was.files }
renamed_by (Take path contents) number now was = record was { files = given path (Some number) was.files }
renamed_by (Rename from to) number now was = record was { files = given to (now.files from) (given from None was.files) }
renamed_by (Remove path) number now was = record was { files = given path None was.files }

-- the names after these calls
abbrev pub names_after : Beginning → List Call → Standing
names_after first [] = first_names first
names_after first (Named change ∷ calls) = renamed_by change (file_count first calls) (names_after first calls) (names_after first calls)
names_after first (call ∷ calls) = names_after first calls

abbrev pub no_contents : Contents
no_contents = record { bytes = []; firm = 0; is_lost = false }

abbrev pub more_bytes : List ℕ → Contents → Contents
more_bytes bytes file = record file { bytes = file.bytes ++ bytes }

abbrev pub made_firm : Contents → Contents
made_firm file = record file { firm = if file.is_lost then file.firm else length file.bytes }

abbrev pub made_lost : Contents → Contents
made_lost file = record file { is_lost = true }

-- what a file has after these calls, by its number
abbrev pub contents_after : Beginning → List Call → ℕ → Contents
contents_after first [] n = record { bytes = first_bytes first.files n; firm = length (first_bytes first.files n); is_lost = false }
contents_after first (Named (Create path) ∷ calls) n = if n == file_count first calls then no_contents else contents_after first calls n
contents_after first (Named (Take path contents) ∷ calls) n = if n == file_count first calls then contents else contents_after first calls n
contents_after first (Named change ∷ calls) n = contents_after first calls n
contents_after first (Append number bytes ∷ calls) n = if n == number then more_bytes bytes (contents_after first calls n) else contents_after first calls n
contents_after first (SyncFile number ∷ calls) n = if n == number then made_firm (contents_after first calls n) else contents_after first calls n
contents_after first (FailSync number ∷ calls) n = if n == number then made_lost (contents_after first calls n) else contents_after first calls n
contents_after first (SyncFolder path ∷ calls) n = contents_after first calls n
contents_after first (Firmed ∷ calls) n = contents_after first calls n

abbrev pub names_now : CallRecord → Standing
names_now r = names_after r.first r.calls

abbrev pub contents_now : CallRecord → ℕ → Contents
contents_now r n = contents_after r.first r.calls n

abbrev pub new_number : CallRecord → ℕ
new_number r = file_count r.first r.calls

abbrev pub add_call : Call → CallRecord → CallRecord
add_call call r = record r { calls = call ∷ r.calls }

-- each folder of the rest of a path is there, after what stands before
abbrev pub are_there : (List ℕ → Bool) → List ℕ → List ℕ → Bool
are_there folders before [] = true
are_there folders before (c ∷ cs) = (if c == 47 then folders before else true) && are_there folders (before ++ c ∷ []) cs

-- each folder above a path is there
abbrev pub is_reachable : (List ℕ → Bool) → List ℕ → Bool
is_reachable folders path = folders [] && are_there folders [] path

-- nothing stands below a path
abbrev pub IsEmptyAt : Standing → List ℕ → Type 0
IsEmptyAt now path = (q : List ℕ) → is_below path q ≡ true → (now.folders q ≡ false) × (now.files q ≡ None)

-- what the system asks of a change of names
abbrev pub Allows : Standing → NameCall → Type 0
Allows now (MakeFolder path) = now.files path ≡ None
Allows now (DropFolder path) = (now.folders path ≡ true) × IsEmptyAt now path
Allows now (Create path) = (is_reachable now.folders path ≡ true) × (now.files path ≡ None)
Allows now (Take path contents) = is_reachable now.folders path ≡ true
Allows now (Rename from to) = (is_reachable now.folders to ≡ true) × IsSome (now.files from)
Allows now (Remove path) = IsSome (now.files path)

-- the change was made, as the system allows it
abbrev pub Makes : NameCall → Option CallRecord → Option CallRecord → Type 0
Makes change None new = new ≡ None
Makes change (Some r) new = Allows (names_now r) change × (new ≡ Some (add_call (Named change) r))

-- a call that failed: it was not made, or it was
abbrev pub MayMake : NameCall → Option CallRecord → Option CallRecord → Type 0
MayMake change old new = (new ≡ old) ⊎ Makes change old new

-- a call that changes no names
abbrev pub Does : Call → Option CallRecord → Option CallRecord → Type 0
Does call old new = new ≡ option_map (add_call call) old

-- no file is longer than 2^62 bytes
abbrev pub are_short : List NamedFile → Bool
are_short [] = true
are_short (file ∷ files) = nat_le (length file.1) (2 ^ 62) && are_short files

-- calls on a part begin with what stands there
abbrev pub Begins : Option CallRecord → Option CallRecord → Type 0
Begins None part = part ≡ None
Begins (Some r) part = (first : Beginning) × (part ≡ Some (record { first = first; calls = [] })) × (are_short first.files ≡ true)

-- a file went from a part to a name here
abbrev pub Takes : List ℕ → List ℕ → Option CallRecord → Option CallRecord → Option CallRecord → Option CallRecord → Type 0
Takes from to None part new left = (new ≡ None) × (left ≡ part)
Takes from to (Some r) None new left = ⊥
Takes from to (Some r) (Some p) new left =
    (number : ℕ) × ((names_now p).files from ≡ Some number) × Makes (Take to (contents_now p number)) (Some r) new × Makes (Remove from) (Some p) left

-- a call that failed: no file went, or it did
abbrev pub MayTake : List ℕ → List ℕ → Option CallRecord → Option CallRecord → Option CallRecord → Option CallRecord → Type 0
MayTake from to old part new left = ((new ≡ old) × (left ≡ part)) ⊎ Takes from to old part new left

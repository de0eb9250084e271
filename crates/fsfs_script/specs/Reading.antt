-- Lines and texts at a place, and what it means that a function read them.
use Rattle.std.specs.Prelude.{◌≡◌, ℕ, ◌+◌, ◌<◌, ◌≤◌, List, [], ◌∷◌, ◌++◌, length, take, Option, Some, None, Result, Ok, Err, Bool, MatchBool, nat_lt, ◌==◌, if◌then◌else◌}
use Rattle.fsfs_base.specs.Grammar.Cuts.{Lacks, cut}
use Rattle.fsfs_script.specs.JobLines.Judging.{◌>>=◌}
use Rattle.fsfs_script.specs.declared.job_lines.refusal.Refusal.{Refusal}
use Rattle.fsfs_script.specs.declared.job_lines.refusal.Refusal.TheVariants.{Bad}
use Rattle.fsfs_script.specs.declared.job_lines.refusal.Why.TheVariants as why
use Rattle.fsfs_script.specs.Places.{Place, passed, behind_empty_lines}
use Rattle.fsfs_script.specs.declared.stop.Stop.{Stop}
use Rattle.fsfs_script.specs.declared.stop.Stop.TheVariants as stops

-- ---- what stands at a place

-- a line without its end, of at most 8,192 bytes
abbrev pub line_on : Place → Option (List ℕ × List ℕ) → Result (List ℕ × Place) Refusal
line_on p None = if nat_lt 8192 (length p.bytes) then Err (Bad why.LongLine) else Err (Bad why.Short)
line_on p (Some c) = if nat_lt 8192 (length c.0) then Err (Bad why.LongLine) else Ok (c.0, record { line = p.line + 1; bytes = c.1 })

unfoldable pub line_at : Place → Result (List ℕ × Place) Refusal
line_at p = line_on p (cut 10 p.bytes)

-- a newline
abbrev pub newline_on : ℕ → List ℕ → Result (Unit {0} × Place) Refusal
newline_on line [] = Err (Bad why.Short)
newline_on line (b ∷ bs) = if b == 10 then Ok (tt, record { line = line + 1; bytes = bs }) else Err (Bad why.NoNewline)

unfoldable pub newline_at : Place → Result (Unit {0} × Place) Refusal
newline_at p = newline_on p.line p.bytes

-- n bytes and a newline
unfoldable pub text_at : ℕ → Place → Result (List ℕ × Place) Refusal
text_at n p = newline_at (passed n p) >>= λ q. Ok (take n p.bytes, q.1)

-- what follows the empty lines, and whether anything does
unfoldable pub skipped_at : Place → Result (Bool × Place) Refusal
skipped_at p = Ok (nat_lt 0 (length (behind_empty_lines p).bytes), behind_empty_lines p)

-- ---- what a function read

-- a refusal is that of reading; the source may fail and memory may run out anywhere
abbrev pub IsStop : {Y : Type 0} → Result (Y × Place) Refusal → Stop → Type 0
IsStop read (stops.Refused refusal) = read ≡ Err refusal
IsStop read stops.ReadFault = Unit {0}
IsStop read stops.OutOfMemory = Unit {0}

-- where the place was told: what was read, seen by view, and the place behind it are what reading gives
abbrev pub Reads : {X Y : Type 0} → (X → Y) → (Place → Result (Y × Place) Refusal) → Option Place → Option Place → Result X Stop → Type 0
Reads view read None new result = Unit {0}
Reads view read (Some p) new (Ok x) = (q : Place) × (read p ≡ Ok (view x, q)) × (new ≡ Some q)
Reads view read (Some p) new (Err stop) = IsStop (read p) stop

-- ---- a piece of a line: up to a newline, or all bytes that are here

pub record EndsLine (line text : List ℕ) (old new : Place) : Type 0 where
  pub end : List ℕ
  pub lacks : Lacks 10 end
  pub bytes : old.bytes ≡ end ++ 10 ∷ new.bytes
  pub text_is : text ≡ line ++ end
  pub line_is : new.line ≡ old.line + 1

pub record GrowsLine (line text : List ℕ) (old new : Place) : Type 0 where
  pub lacks : Lacks 10 old.bytes
  pub text_is : text ≡ line ++ old.bytes
  pub new_is : new ≡ record { line = old.line; bytes = [] }

abbrev pub TakesFront : (line text : List ℕ) → (old new : Place) → Bool → Type 0
TakesFront line text old new ended = (length text ≤ 8192) × MatchBool ended (EndsLine line text old new) (GrowsLine line text old new)

-- bytes were added to a line
abbrev pub Grows : List ℕ → List ℕ → List ℕ → Type 0
Grows line more text = (text ≡ line ++ more) × (length text ≤ 8192)

-- the line would have too many bytes
abbrev pub IsTooMuch : List ℕ → List ℕ → Stop → Type 0
IsTooMuch line more (stops.Refused refusal) = (refusal ≡ Bad why.LongLine) × (8192 < length line + length more)
IsTooMuch line more stops.ReadFault = ⊥
IsTooMuch line more stops.OutOfMemory = Unit {0}

-- a line that goes on with so many bytes is too long
pub record IsLong (line : List ℕ) (p : Place) (refusal : Refusal) : Type 0 where
  pub front : List ℕ
  pub rest : List ℕ
  pub lacks : Lacks 10 front
  pub bytes : p.bytes ≡ front ++ rest
  pub long : 8192 < length line + length front
  pub why_is : refusal ≡ Bad why.LongLine

abbrev pub IsFrontStop : List ℕ → Place → Stop → Type 0
IsFrontStop line p (stops.Refused refusal) = IsLong line p refusal
IsFrontStop line p stops.ReadFault = ⊥
IsFrontStop line p stops.OutOfMemory = Unit {0}

-- bytes more of a text, at most so many in all
pub record TakesSome (count : ℕ) (old_text new_text : List ℕ) (old new : Place) : Type 0 where
  pub some : ℕ
  pub within : some ≤ length old.bytes
  pub text_is : new_text ≡ old_text ++ take some old.bytes
  pub new_is : new ≡ passed some old
  pub more : length old_text < length new_text
  pub fits : length new_text ≤ count

-- What places for disks have at each path, after a change of one place.
use Rattle.std.proofs.Common.{◌≡◌, ◌≢◌, ℕ, List, true, false, cond, sym, ap, ◌∙◌}
use Rattle.std.specs.Prelude.{Option, Some, None, Result, Ok, Err, OnOk, OnErr, IfSome, IfNone, string_bytes}
use Rattle.std.specs.Map.{update}
use Rattle.std.specs.Option.{ForSome}
use Rattle.std.specs.Str.{bytes_eq}
use Rattle.std.proofs.lemmas.Bool.{false_from_ne_true}
use Rattle.std.proofs.lemmas.Slice.Eq.{bytes_eq-Decides}
use Rattle.fsfs_memory.specs.Memdisk.MemDisk.{disk_in}
use Rattle.fsfs_memory.specs.declared.memdisk.disk.MemDisk.{MemDisk}

-- what stands at each path
abbrev pub Places : Type 0
Places = List ℕ → Option (Option MemDisk)

-- each disk stands at the path that it is mounted for
abbrev pub AreAtTheirPaths : Places → Type 0
AreAtTheirPaths places = (path : List ℕ) → ForSome (disk_in (places path)) (λ disk. string_bytes disk.mount_path ≡ path)

-- the place of this path, and no other, has become this one
abbrev pub Sets : Places → Places → List ℕ → Option MemDisk → Type 0
Sets old new path place = (p : List ℕ) → new p ≡ update bytes_eq old path (Some place) p

pub set_here : (old new : Places) (path : List ℕ) (place : Option MemDisk) → Sets old new path place → new path ≡ Some place
set_here old new path place sets = sets path ∙ ap (λ b. cond b (Some place) (old path)) ((bytes_eq-Decides path path).1 (λ i. path))

pub set_elsewhere : (old new : Places) (path : List ℕ) (place : Option MemDisk) → Sets old new path place → (p : List ℕ) → p ≢ path → new p ≡ old p
set_elsewhere old new path place sets p apart =
    sets p ∙ ap (λ b. cond b (Some place) (old p)) (false_from_ne_true (bytes_eq path p) (λ e. apart (sym ((bytes_eq-Decides path p).0 e))))

pub same_places : (old new : Places) → ((p : List ℕ) → new p ≡ old p) → AreAtTheirPaths old → AreAtTheirPaths new
same_places old new same at path = λ disk is. at path disk (ap (λ place. disk_in place) (sym (same path)) ∙ is)

pub set_places : (old new : Places) (path : List ℕ) (place : Option MemDisk) → Sets old new path place
    → ForSome place (λ disk. string_bytes disk.mount_path ≡ path) → AreAtTheirPaths old → AreAtTheirPaths new
set_places old new path place sets here at p = λ disk is.
    elim (bytes_eq path p) as (λ b. bytes_eq path p ≡ b → disk_in (cond b (Some place) (old p)) ≡ Some disk → string_bytes disk.mount_path ≡ p) [
      | true ↦ λ same found. here disk found ∙ (bytes_eq-Decides path p).0 same
      | false ↦ λ apart found. at p disk found
    ] (λ i. bytes_eq path p) (ap (λ o. disk_in o) (sym (sets p)) ∙ is)

-- a disk was taken out, or none was there
pub taken_places : (old new : Places) (path : List ℕ) (found : Option MemDisk) → IfSome found (λ disk. Sets old new path None) → IfNone found ((p : List ℕ) → new p ≡ old p) → AreAtTheirPaths old → AreAtTheirPaths new
taken_places old new path None emptied none at = same_places old new none at
taken_places old new path (Some disk) emptied none at = set_places old new path None emptied (λ d h. let e : Some d ≡ None = sym h in cc) at

pub either_way : {T E : Type 0} {P Q R : Type 0} (result : Result T E) → OnOk result P → OnErr result Q → (P → R) → (Q → R) → R
either_way (Ok x) p q f g = f p
either_way (Err x) p q f g = g q

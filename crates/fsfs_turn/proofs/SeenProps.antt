-- Looks at the property files of revisions that a pass has seen.
use Rattle.std.proofs.Common.{◌≡◌, ◌≤◌, ◌<◌, ℕ, zero, suc, List, [], ◌∷◌, ◌++◌, length, refl, sym, ap, subst, ◌∙◌, inl, inr}
use Rattle.std.specs.Prelude.{Option, Some, None, Result, Ok, Err, IfSome, IfOk, slice_get}
use Rattle.std.proofs.lemmas.Option.{same_Some}
use Rattle.std.specs.FinMap.{get}
use Rattle.fsfs_base.specs.Files.{Files}
use Rattle.fsfs_base.specs.declared.failed.Failed.{Failed}
use Rattle.fsfs_layout.specs.declared.layout.Layout.{Layout}
use Rattle.fsfs_layout.specs.declared.repository_file.RepositoryFile.TheVariants as repository
use Rattle.fsfs_layout.specs.FileNames.{file_name}
use Rattle.fsfs_disk.specs.Trace.{IsRead}
use Rattle.fsfs_revision.specs.declared.wrong.Refusal.{Refusal}
use Rattle.fsfs_revision.specs.RevBytes.{or_missing}
use Rattle.fsfs_fetch.specs.Views.{View as StoreView, Reach, Ends, IsKnown}
use Rattle.fsfs_fetch.specs.Props.{MayMeet, MeetsNoMore, Met, may_read}
use Rattle.fsfs_fetch.proofs.PropsLemmas.{met_of, met_unknown}
use Rattle.fsfs_fetch.proofs.TellingLemmas.{not_above}
use Rattle.fsfs_machine.specs.declared.machine.Recorded.{Recorded}
use Rattle.fsfs_turn.specs.Views.{View, Begins, Looked}
use Rattle.fsfs_turn.specs.Courses.{ReadOnly}
use Rattle.fsfs_turn.specs.Telling.{TellsSeen}
use Rattle.fsfs_turn.specs.Seen.{IsDumpOf, IsDumpRead, seen_props, ReadsSeen, ReadsUpTo}

abbrev Pairs : Type 0
Pairs = List (List ℕ × List ℕ)

get_first : (h more : List Recorded) (r : ℕ) (x : Recorded) → slice_get h r ≡ Some x → slice_get (h ++ more) r ≡ Some x
get_first [] more r x e = let f : None ≡ Some x = e in absurd cc
get_first (z ∷ h) more zero x e = e
get_first (z ∷ h) more (suc r) x e = get_first h more r x e

-- what was seen is seen later
seen_later : (g h : List Recorded) (r : ℕ) (x : Recorded) → Begins h g → slice_get g r ≡ Some x → slice_get h r ≡ Some x
seen_later g h r x (more, e) at = ap (λ (l : List Recorded). slice_get l r) e ∙ get_first g more r x at

-- a pass that has seen more meets no more
fewer_seen : (old new : View → Type 0) → ((v : View) → old v → (u : View) × new u × Begins u.seen v.seen) → MeetsNoMore (seen_props old) (seen_props new)
fewer_seen old new onward r file h v x known at = let m = onward v known in h m.0 x m.1 (seen_later v.seen m.0.seen r x m.2 at)

pub fewer_read : (old new : View → Type 0) → ((v : View) → old v → (u : View) × new u × ReadOnly v u) → MeetsNoMore (seen_props old) (seen_props new)
fewer_read old new onward = fewer_seen old new (λ v known. let m = onward v known in (m.0, m.1, m.2.grows))

pub fewer_looked : (old new : View → Type 0) (young : ℕ) → ((v : View) → old v → (u : View) × new u × Looked young v u) → MeetsNoMore (seen_props old) (seen_props new)
fewer_looked old new young onward r file h v x known at =
    let m = onward v known in
    h m.0 x m.1 (ap (λ (u : View). slice_get u.seen r) m.2.is ∙ at)

-- ---- one look

there_is : (rev : ℕ) (file : Option (List ℕ)) (text : List ℕ) → or_missing rev file ≡ Ok text → file ≡ Some text
there_is rev None text e = cc
there_is rev (Some bytes) text e = cc

module _ {Lasting : Type 0} (low : ℕ) (old new : View → Type 0) (store : StoreView Lasting) (layout : Layout) (same : store.layout ≡ layout)
    (onward : (v : View) → old v → (u : View) × new u × ReadOnly v u) (tells : (u : View) → new u → TellsSeen low store u) (rev : ℕ) where
  -- the file that a look meets is a dump of the properties of what the pass has seen
  meets_dump : (m : Files) → store.files ≡ Some m → seen_props old rev (get m (file_name layout (repository.Props rev)))
  meets_dump m there v x known at =
      let u = onward v known in
      let seen = tells u.0 u.1 in
      let one = seen.each rev x (seen_later v.seen u.0.seen rev x u.2.grows at) in
      let files : seen.files ≡ m = same_Some seen.files m (sym seen.told ∙ there) in
      let here = there_is rev _ one.text one.props in
      let at_name : get seen.files (file_name store.layout (repository.Props rev)) ≡ get m (file_name layout (repository.Props rev)) =
      ap (λ (f : Files). get f (file_name store.layout (repository.Props rev))) files ∙ ap (λ (l : Layout). get m (file_name l (repository.Props rev))) same in
      subst (IsDumpOf x.revision.properties) (sym here ∙ at_name) one.dump

  -- where the files are not told, nothing is known of the pass
  meets_any : store.files ≡ None → (file : Option (List ℕ)) → seen_props old rev file
  meets_any none file v x known at = let u = onward v known in let seen = tells u.0 u.1 in let e : None ≡ Some seen.files = sym none ∙ seen.told in cc

  met_in : (files : Option Files) (name before after : List ℕ) (found : Option ℕ) → store.files ≡ files → name ≡ file_name layout (repository.Props rev) → length after ≡ length before → IfSome found (λ n. n ≤ length after)
      → IfSome files (λ m. IsRead (get m name) 0 before after found) → Met (seen_props old rev) before after found
  met_in None name before after found is named long bound read = met_unknown (seen_props old rev) before after found (meets_any is) bound long
  met_in (Some m) name before after found is named long bound read =
      met_of (seen_props old rev) (get m name) before after found (subst (λ (n : List ℕ). seen_props old rev (get m n)) (sym named) (meets_dump m is)) read

  pub turn_met : (name before after : List ℕ) (result : Result (Option ℕ) Failed) → name ≡ file_name layout (repository.Props rev) → length after ≡ length before → IfOk result (λ found. IfSome found (λ n. n ≤ length after))
      → IfSome store.files (λ m. IfOk result (IsRead (get m name) 0 before after)) → IfOk result (Met (seen_props old rev) before after)
  turn_met name before after (Err e) named long bound read = tt
  turn_met name before after (Ok found) named long bound read = met_in store.files name before after found refl named long bound read

-- ---- a book

dump_read : (rev : ℕ) (properties : Pairs) (file : Option (List ℕ)) (read : Result (List ℕ) Refusal) → IsDumpOf properties file → read ≡ or_missing rev file → IsDumpRead properties read
dump_read rev properties None read h e = absurd h
dump_read rev properties (Some text) read h e = subst (IsDumpRead properties) (sym e) h

module _ (knows : View → Type 0) (v : View) (known : knows v) (reach : Reach) where
  reads_one : (r : ℕ) (x : Recorded) → IsKnown reach r → slice_get v.seen r ≡ Some x → (read : Result (List ℕ) Refusal) → may_read reach (seen_props knows) r read → IsDumpRead x.revision.properties read
  reads_one r x there at read (inl (n, is, above, e)) = absurd (not_above reach r n is above there)
  reads_one r x there at read (inr (n, is, le, file, may, e)) = dump_read r x.revision.properties file read (may v x known at) e

  pub reads_seen : ((r : ℕ) (x : Recorded) → slice_get v.seen r ≡ Some x → IsKnown reach r) → ReadsSeen v (may_read reach (seen_props knows))
  reads_seen there r x at read may = reads_one r x (there r x at) at read may

pub reads_up_to : (knows : View → Type 0) (v : View) (known : knows v) (last : ℕ) → ReadsUpTo last v (may_read (Ends last) (seen_props knows))
reads_up_to knows v known last r x le at read may = reads_one knows v known (Ends last) r x le at read may

-- A new store is known.
use Rattle.std.proofs.Common.{◌≡◌, ◌==◌, ◌+◌, ℕ, suc, zero, List, [], ◌∷◌, length, true, false, cond, ⊎_elim, refl, sym, ap, subst, ◌∙◌, arith}
use Rattle.std.specs.Prelude.{Option, Some, None, Result, Ok, unwrap_or, slice_get, codes}
use Rattle.std.specs.FinMap.{get}
use Rattle.std.proofs.Math.Nat.{zero-mod}
use Rattle.fsfs_disk.specs.Labels.{Label}
use Rattle.fsfs_disk.specs.Trace.{Operation, Done, files_after, ImageSince}
use Rattle.fsfs_disk.specs.Trace as real
use Rattle.fsfs_base.specs.Files.{Files}
use Rattle.fsfs_tree.specs.Dated.{date_name}
use Rattle.fsfs_layout.specs.Hash.Dump.{IsDump}
use Rattle.fsfs_layout.specs.Layouts.{shard_size}
use Rattle.fsfs_layout.specs.declared.layout.Layout.{Layout}
use Rattle.fsfs_layout.proofs.Manifests.{size_some}
use Rattle.std.proofs.lemmas.Bool.{both_ways}
use Rattle.fsfs_layout.specs.CreatedFiles.{format_text, date_properties}
use Rattle.fsfs_base.specs.FirstRevision.{first_bytes}
use Rattle.fsfs_stands.specs.History.{ShowsHistory}
use Rattle.fsfs_tree.specs.Answers.{first_revision as first_shown}
use Rattle.fsfs_stands.specs.NewRepository.{HoldsNew}
use Rattle.fsfs_stands.specs.Changes.{AreChangesOf}
use Rattle.fsfs_stands.proofs.FirstHistory.{first_history}
use Rattle.fsfs_stands.proofs.NewRepository.{first_name, zero_line, zero_line36, new_repositories_stand, new_format}
use Rattle.fsfs_machine.specs.declared.contents.FileName.{FileName}
use Rattle.fsfs_machine.specs.declared.contents.FileName.TheVariants.{Current, CurrentNext, Counter, CounterNext, Floor, FloorNext, Rev, Props, Pack, Manifest}
use Rattle.fsfs_machine.specs.declared.contents.Contents.{Contents}
use Rattle.fsfs_machine.specs.declared.contents.Contents.TheVariants.{PropsFile, Number}
use Rattle.fsfs_machine.specs.declared.contents.NameChange.TheVariants.{Put, Firm}
use Rattle.fsfs_machine.specs.declared.machine.Recorded.{Recorded}
use Rattle.fsfs_machine.specs.Disk.{Disk, found, is_gone, same_name, IsImage}
use Rattle.fsfs_machine.specs.Machine.{World, created, file_of, first_pass}
use Rattle.fsfs_machine.specs.Kept.{Kept}
use Rattle.fsfs_machine.proofs.Created.{created_kept}
use Rattle.fsfs_images.specs.RealNames.{machine_name}
use Rattle.fsfs_images.specs.Shown.{Fits, AtName, AreRead, Opening}
use Rattle.fsfs_turn.specs.Bytes.{bytes_of, ShowsOne, BytesShow, AllShow}
use Rattle.fsfs_turn.specs.Alone.{KnowsAlone}
use Rattle.fsfs_turn.specs.Views.{View, Sees}
use Rattle.fsfs_turn.specs.Standing.{no_others, IsStore}
use Rattle.fsfs_turn.specs.Stands.{HasOwnFiles}
use Rattle.fsfs_turn.specs.Opening.{new_revision, NewStoreIsKnown, opened_at}
use Rattle.fsfs_turn.specs.Past.{IsWhole, StoodFor, Safe}
use Rattle.fsfs_images.proofs.Showing.{image_read}
use Rattle.fsfs_turn.proofs.Moments.{stood_for}
use Rattle.fsfs_turn.proofs.OwnFiles.{own_from_opening}
use Rattle.fsfs_turn.proofs.Stepping.{kept_bare}

pub at_none : (layout : Layout) (n : FileName) (o : Option (List ℕ)) → AtName layout n o None
at_none layout n None = tt
at_none layout n (Some b) = tt

-- where nothing was taken away, a put takes nothing away
pub put_keeps : (n : FileName) (c : Contents) (d : Disk) (q : FileName) → is_gone d q ≡ false → is_gone (Put n c ∷ d) q ≡ false
put_keeps n c d q none = elim (same_name n q) as (λ b. cond b false (is_gone d q) ≡ false) [
  | true ↦ refl
  | false ↦ none
]

pub ok_is : {A E : Type 0} (r : Result A E) (a b : A) → r ≡ Ok a → r ≡ Ok b → a ≡ b
ok_is r a b e f = cc

module _ (first : Files) (labels : List Label) (before : List Operation) (date : List ℕ) (new : HoldsNew (files_after first before) date) where
  shown : ShowsHistory (bytes_of (new_revision date ∷ [])) (λ r. Ok (date_properties date)) (first_shown date ∷ [])
  shown = first_history (bytes_of (new_revision date ∷ [])) (λ r. Ok (date_properties date)) date new.moment new.dated refl refl

  dump : IsDump (date_properties date) ((date_name, date) ∷ [])
  dump = let s = shown.each 0 (first_shown date) refl in subst (λ t. IsDump t ((date_name, date) ∷ [])) (ok_is (Ok (date_properties date)) s.file (date_properties date) s.file_is refl) s.properties

  one : ShowsOne (bytes_of (new_revision date ∷ [])) 0 (new_revision date)
  one =
      let s = shown.each 0 (first_shown date) refl in
      let bytes : s.bytes ≡ first_bytes = ok_is (bytes_of (new_revision date ∷ []) 0) s.bytes first_bytes s.bytes_are refl in
      record { tree = s.tree; changes = subst (λ b. AreChangesOf (bytes_of (new_revision date ∷ [])) 0 b (first_shown date).changes) bytes s.changes; dated = s.dated }

  bytes_show : BytesShow (new_revision date ∷ [])
  bytes_show = record { each = each; ids = shown.ids }
    where
      each : (r : ℕ) (z : Recorded) → slice_get (new_revision date ∷ []) r ≡ Some z → ShowsOne (bytes_of (new_revision date ∷ [])) r z
      each zero z e = let same : new_revision date ≡ z = (let f : Some (new_revision date) ≡ Some z = e in cc) in subst (λ y. ShowsOne (bytes_of (new_revision date ∷ [])) 0 y) same one
      each (suc r) z e = let f : None ≡ Some z = e in absurd cc

  all_show : AllShow (new_revision date ∷ [])
  all_show zero some = absurd (omega (arith, some))
  all_show (suc zero) some = bytes_show
  all_show (suc (suc n)) some = bytes_show

  disk : Disk
  disk = Put Current (Number 0) ∷ Put (Rev 0) (file_of (new_revision date)) ∷ Put (Props 0) (PropsFile ((date_name, date) ∷ [])) ∷ Put Counter (Number 0) ∷ Put Floor (Number 0) ∷ []

  read_name : (n : FileName) → Fits n → AtName new.layout n (get (files_after first before) (machine_name new.layout n)) (found disk n)
  unfolding disk
  read_name Current fits = subst (λ o. AtName new.layout Current o (Some (Number 0))) (sym new.new.1.1.1.0) zero_line
  read_name CurrentNext fits = at_none new.layout CurrentNext (get (files_after first before) (machine_name new.layout CurrentNext))
  read_name Counter fits = subst (λ o. AtName new.layout Counter o (Some (Number 0))) (sym new.new.1.1.1.1.0) zero_line36
  read_name CounterNext fits = at_none new.layout CounterNext (get (files_after first before) (machine_name new.layout CounterNext))
  read_name Floor fits = subst (λ o. AtName new.layout Floor o (Some (Number 0))) (sym new.new.1.1.1.1.1.0) zero_line
  read_name FloorNext fits = at_none new.layout FloorNext (get (files_after first before) (machine_name new.layout FloorNext))
  read_name (Rev r) fits = elim (0 == r) as (λ b. (0 == r) ≡ b → AtName new.layout (Rev r) (get (files_after first before) (machine_name new.layout (Rev r))) (cond b (Some (file_of (new_revision date))) None)) [
    | true ↦ λ e.
        let same : 0 ≡ r = grind (arith, e) in
        subst (λ k. AtName new.layout (Rev k) (get (files_after first before) (machine_name new.layout (Rev k))) (Some (file_of (new_revision date)))) same
        (subst (λ o. AtName new.layout (Rev 0) o (Some (file_of (new_revision date)))) (sym (ap (get (files_after first before)) (first_name (codes "db/revs") new.layout new.packs.sharded) ∙ new.new.1.1.1.1.1.1.1.1.0)) refl)
    | false ↦ λ e. at_none new.layout (Rev r) (get (files_after first before) (machine_name new.layout (Rev r)))
  ] refl
  read_name (Props r) fits = elim (0 == r) as (λ b. (0 == r) ≡ b → AtName new.layout (Props r) (get (files_after first before) (machine_name new.layout (Props r))) (cond b (Some (PropsFile ((date_name, date) ∷ []))) None)) [
    | true ↦ λ e.
        let same : 0 ≡ r = grind (arith, e) in
        subst (λ k. AtName new.layout (Props k) (get (files_after first before) (machine_name new.layout (Props k))) (Some (PropsFile ((date_name, date) ∷ [])))) same
        (subst (λ o. AtName new.layout (Props 0) o (Some (PropsFile ((date_name, date) ∷ [])))) (sym (ap (get (files_after first before)) (first_name (codes "db/revprops") new.layout new.packs.sharded) ∙ new.new.1.1.1.1.1.1.1.1.1.0)) dump)
    | false ↦ λ e. at_none new.layout (Props r) (get (files_after first before) (machine_name new.layout (Props r)))
  ] refl
  read_name (Pack k) fits = at_none new.layout (Pack k) (get (files_after first before) (machine_name new.layout (Pack k)))
  read_name (Manifest k) fits = at_none new.layout (Manifest k) (get (files_after first before) (machine_name new.layout (Manifest k)))

  -- nothing was taken away
  none_gone : (n : FileName) → is_gone disk n ≡ false
  unfolding disk
  none_gone n = put_keeps Current (Number 0) (Put (Rev 0) (file_of (new_revision date)) ∷ Put (Props 0) (PropsFile ((date_name, date) ∷ [])) ∷ Put Counter (Number 0) ∷ Put Floor (Number 0) ∷ []) n
      (put_keeps (Rev 0) (file_of (new_revision date)) (Put (Props 0) (PropsFile ((date_name, date) ∷ [])) ∷ Put Counter (Number 0) ∷ Put Floor (Number 0) ∷ []) n
      (put_keeps (Props 0) (PropsFile ((date_name, date) ∷ [])) (Put Counter (Number 0) ∷ Put Floor (Number 0) ∷ []) n
      (put_keeps Counter (Number 0) (Put Floor (Number 0) ∷ []) n (put_keeps Floor (Number 0) [] n refl))))

  read : AreRead new.layout (files_after first before) disk
  read = record { read = read_name; gone = λ n fits gone. absurd (both_ways (is_gone disk n) (none_gone n) gone) }

  world : World
  world = created (shard_size new.layout) ((date_name, date) ∷ []) first_bytes

  kept : Kept (created (shard_size new.layout) ((date_name, date) ∷ []) first_bytes)
  kept = created_kept (created (shard_size new.layout) ((date_name, date) ∷ []) first_bytes) (shard_size new.layout) ((date_name, date) ∷ []) first_bytes (size_some new.layout) refl

  whole : IsWhole new.layout 0
  whole = record { packs = new.packs; place = zero-mod (shard_size new.layout) }

  view : View
  view = record { layout = new.layout; since = opened_at first before; opened = 1; number = 0; pass = first_pass 1 0; seen = new_revision date ∷ []; section = None; sure = false; firm = None; left = None; given = []; full = false }

  store : IsStore new.layout 0 0 None (record { first = first; labels = labels; operations = Done real.FirmNames ∷ before }) world
  unfolding world disk
  store = record { trace = Opening before disk read; size = refl; whole = whole; kept = kept_bare world kept; shown = all_show; coming = tt; low_is = refl; young_is = refl; stuck_is = refl }

  sees : Sees world view
  unfolding world view
  sees = record { pass = refl; seen = refl; section = refl; up = refl; sure = λ e. absurd cc; whole = λ z e. absurd cc; given = λ k i. absurd i; opened = omega arith; shown = all_show; names = record { full = λ e. absurd cc; drawing = λ z e. absurd cc }; firm = λ z f e is. absurd cc }

  safe : Safe new.layout (opened_at first before) (record { first = first; labels = labels; operations = Done real.FirmNames ∷ before }) 1 (new_revision date ∷ []) None
  unfolding disk
  safe m i =
      let r = image_read new.layout no_others first (Done real.FirmNames ∷ before) (Firm ∷ disk) (Opening before disk read) m (now i) in
      (r.0, r.2, stood r.0 r.1)
    where
      now : ImageSince (length before + 1) first (Done real.FirmNames ∷ before) m → real.IsImage first (Done real.FirmNames ∷ before) m
      now i = ⊎_elim (λ a. a) (λ b. absurd (omega (arith, b.0))) i

      stood : (e : Disk) → IsImage (Firm ∷ disk) e → StoodFor new.layout 1 (new_revision date ∷ []) None e
      stood = stood_for new.layout 1 (created (shard_size new.layout) ((date_name, date) ∷ []) first_bytes) refl whole kept (omega arith)

  own : HasOwnFiles (files_after first before) new.layout
  own =
      let s = new_repositories_stand (files_after first before) date new in
      record {
        format = (format_text (shard_size new.layout), record { there = new.new.1.1.1.1.1.1.1.1.1.1.0; fs_type = ap (λ (o : Option (List ℕ)). unwrap_or o []) new.new.1.0 }, new_format new.layout new.packs);
        uuid = (s.opened.uuid, s.small.behind.uuid);
      }

  pub new_is_known : (v : View) × KnowsAlone new.layout 0 0 None (Some (record { first = first; labels = labels; operations = Done real.FirmNames ∷ before })) v × (v.section ≡ None) × (v.pass ≡ first_pass 1 0) × (v.seen ≡ new_revision date ∷ []) × (v.since ≡ opened_at first before)
  unfolding view world
  new_is_known = (view, ((world, store, sees, refl, refl, safe, refl, refl), record { all = refl; own = refl; free = λ harmless. refl; sound = λ harmless. refl; found = λ harmless. refl }, own_from_opening new.layout first before own), refl, refl, refl, refl)

pub new_store_is_known : NewStoreIsKnown
new_store_is_known first labels before date new = new_is_known first labels before date new

-- What calls of a pack's section come to, one behind another.
use Rattle.std.proofs.Common.{◌≡◌, ◌≤◌, ◌+◌, ◌/◌, ℕ, suc, zero, List, [], ◌∷◌, ◌++◌, length, map, take, drop, true, false, cond, ⊎_elim, refl, sym, ap, subst, ◌∙◌, arith, length-append}
use Rattle.std.specs.Prelude.{Option, Some, None, Result, Ok, Err, IsSome, option_map, unwrap_or}
use Rattle.std.proofs.lemmas.List.{take-append-le}
use Rattle.fsfs_base.specs.Files.{Files}
use Rattle.fsfs_base.proofs.FileLemmas.{get_left}
use Rattle.fsfs_layout.specs.FileNames.{file_name}
use Rattle.fsfs_layout.specs.Layouts.{shard_size, shard_of}
use Rattle.fsfs_layout.specs.Manifest.{IsManifest}
use Rattle.fsfs_layout.specs.declared.layout.Layout.{Layout}
use Rattle.fsfs_layout.specs.declared.repository_file.RepositoryFile.TheVariants as file
use Rattle.fsfs_disk.specs.Benches.{removed, bytes_on, IsFirmFile}
use Rattle.fsfs_disk.specs.Trace.{Adopt}
use Rattle.fsfs_base.specs.declared.places.place.DiskPlace.{DiskPlace}
use Rattle.fsfs_base.specs.declared.places.place.DiskPlace.TheVariants.{Pack}
use Rattle.fsfs_base.specs.declared.places.place.PackPlace.{PackPlace}
use Rattle.fsfs_base.specs.declared.places.place.PackPlace.TheVariants.{AdoptPack, AdoptManifest}
use Rattle.fsfs_machine.specs.declared.contents.Part.{Part}
use Rattle.fsfs_machine.specs.declared.machine.Recorded.{Recorded}
use Rattle.fsfs_machine.specs.declared.machine.Section.{Section}
use Rattle.fsfs_machine.specs.declared.machine.Section.TheVariants.{Begun, PackPut, Packed, Over}
use Rattle.fsfs_machine.specs.declared.machine.Step.TheVariants as step
use Rattle.fsfs_machine.specs.declared.machine.Went.{Went}
use Rattle.fsfs_machine.specs.declared.machine.Went.TheVariants.{Fine, Before, After, Torn}
use Rattle.fsfs_machine.specs.Machine.{part_of, parts_from, starts, is_fine_in, either, answer, after, spoiled}
use Rattle.fsfs_images.specs.Shown.{IsCut}
use Rattle.fsfs_turn.specs.Alone.{BringsNoDoubt, leaves_stuck}
use Rattle.fsfs_turn.specs.Courses.{End, More}
use Rattle.fsfs_turn.specs.Views.{View, IsFullShard, shard_parts, pack_name, MayPack, IsDue, given_by, firm_by, called_view, Called}
use Rattle.fsfs_turn.proofs.Doubts.{same_faults, fault_more}
use Rattle.fsfs_turn.proofs.Reading.{begins_on, course_on}
use Rattle.fsfs_pack.specs.declared.shard.Shard.{Shard}
use Rattle.fsfs_pack.specs.Copies.{together, HasFile}
use Rattle.fsfs_pack.specs.Sections.{pack_text, manifest_text, Along, Reached, spoilt, Goes, IsNext, HasManifest, IsWritten}
use Rattle.fsfs_pack.proofs.Cutting.{packs_are_cut}
use Rattle.fsfs_pack.proofs.BenchFiles.{apart}

-- ---- along

-- what a view is that differs so alone
pub along_is : (v u : View) (a b : ℕ) (c : List DiskPlace) (l : List Recorded) (s : Option Section) (f : Option ℕ) → u ≡ record v { pass = record v.pass { seen = a; floor = b; faults = c }; seen = l; section = s; firm = f }
    → u ≡ record v { pass = record v.pass { seen = u.pass.seen; floor = u.pass.floor; faults = u.pass.faults }; seen = u.seen; section = u.section; firm = u.firm }
along_is v u a b c l s f e = e ∙ (λ i. record v {
  pass = record v.pass { seen = sym (ap {A = View} (λ z. z.pass.seen) e) i; floor = sym (ap {A = View} (λ z. z.pass.floor) e) i; faults = sym (ap {A = View} (λ z. z.pass.faults) e) i };
  seen = sym (ap {A = View} (λ z. z.seen) e) i;
  section = sym (ap {A = View} (λ z. z.section) e) i;
  firm = sym (ap {A = View} (λ z. z.firm) e) i;
})

pub along_on : (v m u : View) → Along v m → Along m u → Along v u
along_on v m u a b = record {
  is = b.is ∙ ap {A = View} (λ z. record z { pass = record z.pass { seen = u.pass.seen; floor = u.pass.floor; faults = u.pass.faults }; seen = u.seen; section = u.section; firm = u.firm }) a.is;
  grows = begins_on v.seen m.seen u.seen a.grows b.grows;
  course = course_on v m u a.course b.course;
}

pub longer : (v u : View) → Along v u → length v.seen ≤ length u.seen
longer v u a = let long : length u.seen ≡ length v.seen + length a.grows.0 = ap length a.grows.1 ∙ length-append v.seen a.grows.0 in omega (arith, long)

-- whether it may pack
pub packs_stay : (v u : View) → Along v u → u.since.packs ≡ v.since.packs
packs_stay v u a = ap {A = View} (λ z. z.since.packs) a.is

pub layout_stays : (v u : View) → Along v u → u.layout ≡ v.layout
layout_stays v u a = ap {A = View} (λ z. z.layout) a.is

-- ---- one call

same_section : (s t : Section) → Some s ≡ Some t → s ≡ t
same_section s t e = cc

module _ (s : Section) (place : DiskPlace) (v : View) (at : v.section ≡ Some s) (same_given : (went : Went) (g : List ℕ) → given_by s went g ≡ g) where
  called_is : (went : Went) (u : View) → Called place went v u → u ≡ record (called_view u.seen place went s v) { given = v.given }
  called_is went u c = c.is ∙ ap (λ r. called_view u.seen place went r v) (same_section c.inside s (sym c.was ∙ at)) ∙ ap (λ g. record (called_view u.seen place went s v) { given = g }) (same_given went v.given)

  along : (went : Went) (u : View) → Called place went v u → Along v u
  along went u c = record {
    is = along_is v u (length u.seen) v.pass.floor (either went v.pass.faults (v.pass.faults ++ place ∷ [])) u.seen (Some (either went (after s) (spoiled s))) (firm_by s went (shard_size v.layout) v.firm) (called_is went u c);
    grows = c.grows;
    course = More [] (step.Call v.number place went) (answer went) v u u c.turned (End u);
  }

  pub done : (t : Section) (f g : ℕ) (known : View → Type 0) → v.firm ≡ Some f → after s ≡ t → firm_by s Fine (shard_size v.layout) (Some f) ≡ Some g
      → (u : View) × (went : Went) × known u × (is_fine_in went ≡ true) × Called place went v u → (u : View) × known u × Reached t g v u
  done t f g known firm next raised c = by_went c.1 c.3 c.4
    where
      by_went : (went : Went) → is_fine_in went ≡ true → Called place went v c.0 → (u : View) × known u × Reached t g v u
      by_went Before e d = absurd cc
      by_went After e d = absurd cc
      by_went (Torn any) e d = absurd cc
      by_went Fine e d = (
        c.0,
        c.2,
        record {
          along = along Fine c.0 d;
          section = ap {A = View} (λ z. z.section) (called_is Fine c.0 d) ∙ ap (λ (z : Section). Some z) next;
          firm = ap {A = View} (λ z. z.firm) (called_is Fine c.0 d) ∙ ap (λ o. firm_by s Fine (shard_size v.layout) o) firm ∙ raised;
          doubtless = same_faults v c.0 (ap {A = View} (λ z. z.pass.faults) (called_is Fine c.0 d));
        },
      )

  -- it failed
  pub ill : (known : View → Type 0) (t : Section) → spoiled s ≡ t → (u : View) × (went : Went) × known u × (is_fine_in went ≡ false) × Called place went v u
      → (u : View) × known u × Along v u × (u.section ≡ Some t) × (leaves_stuck place ≡ false → BringsNoDoubt v u) × (u.pass.faults ≡ v.pass.faults ++ place ∷ [])
  ill known t next c =
      let is = called_is c.1 c.0 c.4 in
      let faults : c.0.pass.faults ≡ v.pass.faults ++ place ∷ [] = ap {A = View} (λ z. z.pass.faults) is ∙ ap (λ b. cond b v.pass.faults (v.pass.faults ++ place ∷ [])) c.3 in (
        c.0,
        c.2,
        along c.1 c.0 c.4,
        ap {A = View} (λ z. z.section) is ∙ ap (λ b. Some (cond b (after s) (spoiled s))) c.3 ∙ ap (λ (z : Section). Some z) next,
        λ calm. fault_more place v c.0 faults calm,
        faults,
      )

-- ---- answers

pub went_well : (known : View → Type 0) (t : Section) (f : ℕ) (v : View) → (u : View) × known u × Reached t f v u → Goes known (Ok tt) t f v
went_well known t f v c = record { done = c; failed = tt }

pub went_ill : (known : View → Type 0) (place : PackPlace) (t : Section) (f : ℕ) (v : View) → (u : View) × known u × Along v u × (u.section ≡ Some (spoilt place)) × (leaves_stuck (Pack place) ≡ false → BringsNoDoubt v u) × (u.pass.faults ≡ v.pass.faults ++ Pack place ∷ []) → Goes known (Err place) t f v
went_ill known place t f v c = record { done = tt; failed = (c.0, c.1, record { along = c.2; section = c.3; doubtless = c.4; before = v.pass.faults; last = c.5 }) }

-- a failure, whatever was to be reached
pub fails : (known : View → Type 0) (place : PackPlace) (s t : Section) (f g : ℕ) (v : View) → Goes known (Err place) s f v → Goes known (Err place) t g v
fails known place s t f g v n = record { done = tt; failed = n.failed }

-- calls behind others
pub goes_on : (known : View → Type 0) (result : Result (Unit {0}) PackPlace) (s t : Section) (f g : ℕ) (v m : View) → Reached s f v m → Goes known result t g m → Goes known result t g v
goes_on known (Ok tt) s t f g v m r n = record {
  done = (let d = n.done in (d.0, d.1, record { along = along_on v m d.0 r.along d.2.along; section = d.2.section; firm = d.2.firm; doubtless = λ few. d.2.doubtless (r.doubtless few) }));
  failed = tt;
}
goes_on known (Err place) s t f g v m r n = record {
  done = tt;
  failed = (let d = n.failed in (d.0, d.1, record { along = along_on v m d.0 r.along d.2.along; section = d.2.section; doubtless = λ calm few. d.2.doubtless calm (r.doubtless few); before = d.2.before; last = d.2.last }));
}

-- ---- what stays of the shard

within : (n f : ℕ) (xs ys : List Recorded) → f + n ≤ length xs → take n (drop f (xs ++ ys)) ≡ take n (drop f xs)
within n zero xs ys le = take-append-le n xs ys (omega (arith, le))
within n (suc f) [] ys le = absurd (omega (arith, le))
within n (suc f) (x ∷ xs) ys le = within n f xs ys (omega (arith, le))

pub parts_stay : (v u : View) (f : ℕ) → IsFullShard v f → Along v u → shard_parts u f ≡ shard_parts v f
parts_stay v u f full a =
    ap (λ k. parts_from (shard_size k) f u.seen) (layout_stays v u a) ∙ ap (λ h. parts_from (shard_size v.layout) f h) a.grows.1 ∙ ap (λ xs. map part_of xs) (within (shard_size v.layout) f v.seen a.grows.0 full.full)

pub next_stays : (x : Shard) (v u : View) → IsNext x v → Along v u → u.firm ≡ Some x.first → IsNext x u
next_stays x v u n a firm = record {
  layout = n.layout ∙ sym (layout_stays v u a);
  full = record { packs = packs_stay v u a ∙ n.full.packs; firm = firm; full = subst (λ k. x.first + shard_size k ≤ length u.seen) (sym (layout_stays v u a)) (let full = n.full.full in omega (arith, full, longer v u a)); fits = n.full.fits };
}

pub manifest_stays : (x : Shard) (v u : View) (held now : Option Files) → IsNext x v → Along v u → (m : HasManifest x v held) → HasFile now manifest_text m.text → HasManifest x u now
manifest_stays x v u held now n a m there = record {
  text = m.text;
  there = there;
  lines = subst (λ (y : Layout × List Part). IsManifest (shard_size y.0) m.text (starts 0 y.1)) (λ i. (sym (layout_stays v u a) i, sym (parts_stay v u x.first n.full a) i)) m.lines;
}

pub written_stays : (x : Shard) (v u : View) (held : Option Files) → IsNext x v → Along v u → IsWritten x v held → IsWritten x u held
written_stays x v u held n a w = record {
  pack = subst (λ xs. HasFile held pack_text (together xs)) (sym (parts_stay v u x.first n.full a)) w.pack;
  manifest = manifest_stays x v u held held n a w.manifest w.manifest.there;
}

-- the manifest is due behind the pack
pub still_due : (x : Shard) (v u : View) (held now : Option Files) → IsNext x v → Reached PackPut x.first v u → (w : IsWritten x v held) → HasFile now manifest_text w.manifest.text → IsNext x u × HasManifest x u now
still_due x v u held now n r w there = (next_stays x v u n r.along r.firm, manifest_stays x v u held now n r.along w.manifest there)

-- ---- the adoptions are due

bytes_there : (held : Option Files) (name bytes : List ℕ) → IsSome held → HasFile held name bytes → bytes_on held name ≡ bytes
bytes_there None name bytes tells has = absurd cc
bytes_there (Some m) name bytes tells has = ap (λ (o : Option (List ℕ)). unwrap_or o []) has

pub pack_due : (x : Shard) (v : View) (held : Option Files) (name at : List ℕ) (number : ℕ) → MayPack v.section → IsNext x v → IsWritten x v held → IsSome held → name ≡ file_name x.layout (file.Pack number) → number ≡ shard_of x.layout x.first → at ≡ pack_text
    → IsDue v (Pack AdoptPack) (Adopt name (bytes_on held at))
pack_due x v held name at number may n w tells named number_is at_is = (
  x.first,
  n.full,
  may,
  named ∙ ap (λ k. file_name x.layout (file.Pack k)) number_is ∙ ap (λ k. file_name k (file.Pack (x.first / shard_size k))) n.layout,
  subst (λ bytes. IsCut (starts 0 (shard_parts v x.first)) bytes (shard_parts v x.first)) (sym (ap (λ a. bytes_on held a) at_is ∙ bytes_there held pack_text (together (shard_parts v x.first)) tells w.pack)) (packs_are_cut (shard_parts v x.first)),
)

-- whatever the bench has, with the bytes that the pack has
pub pack_due_first : (x : Shard) (v : View) → MayPack v.section → IsNext x v → IsDue v (Pack AdoptPack) (Adopt (pack_name v x.first) (together (shard_parts v x.first)))
pack_due_first x v may n = (x.first, n.full, may, refl, packs_are_cut (shard_parts v x.first))

pub manifest_due : (x : Shard) (v : View) (held : Option Files) (name at : List ℕ) (number : ℕ) → v.section ≡ Some PackPut → IsNext x v → HasManifest x v held → IsSome held → name ≡ file_name x.layout (file.Manifest number) → number ≡ shard_of x.layout x.first → at ≡ manifest_text
    → IsDue v (Pack AdoptManifest) (Adopt name (bytes_on held at))
manifest_due x v held name at number inside n m tells named number_is at_is = (
  x.first,
  n.full,
  inside,
  named ∙ ap (λ k. file_name x.layout (file.Manifest k)) number_is ∙ ap (λ k. file_name k (file.Manifest (x.first / shard_size k))) n.layout,
  subst (λ bytes. IsManifest (shard_size v.layout) bytes (starts 0 (shard_parts v x.first))) (sym (ap (λ a. bytes_on held a) at_is ∙ bytes_there held manifest_text m.text tells m.there)) m.lines,
)

-- ---- a pack begins in either of two sections

pub pack_done : (v : View) (f : ℕ) (known : View → Type 0) → MayPack v.section → v.firm ≡ Some f → (u : View) × (went : Went) × known u × (is_fine_in went ≡ true) × Called (Pack AdoptPack) went v u → (u : View) × known u × Reached PackPut f v u
pack_done v f known may firm c = ⊎_elim
    (λ (at : v.section ≡ Some Begun). done Begun (Pack AdoptPack) v at (λ went g. refl) PackPut f f known firm refl refl c)
    (λ (at : v.section ≡ Some Packed). done Packed (Pack AdoptPack) v at (λ went g. refl) PackPut f f known firm refl refl c) may

pub pack_ill : (v : View) (known : View → Type 0) → MayPack v.section → (u : View) × (went : Went) × known u × (is_fine_in went ≡ false) × Called (Pack AdoptPack) went v u
    → (u : View) × known u × Along v u × (u.section ≡ Some (spoilt AdoptPack)) × (leaves_stuck (Pack AdoptPack) ≡ false → BringsNoDoubt v u) × (u.pass.faults ≡ v.pass.faults ++ Pack AdoptPack ∷ [])
pack_ill v known may c = ⊎_elim
    (λ (at : v.section ≡ Some Begun). ill Begun (Pack AdoptPack) v at (λ went g. refl) known Over refl c)
    (λ (at : v.section ≡ Some Packed). ill Packed (Pack AdoptPack) v at (λ went g. refl) known Over refl c) may

-- ---- what the bench has beside

pub beside_left : (old new : Option Files) (at text : List ℕ) → at ≡ pack_text → new ≡ option_map (removed at) old → HasFile old manifest_text text → HasFile new manifest_text text
beside_left None new at text at_is gone has = subst (λ o. HasFile o manifest_text text) (sym gone) tt
beside_left (Some m) new at text at_is gone has = subst (λ o. HasFile o manifest_text text) (sym gone) (get_left m at manifest_text (λ e. apart (sym (e ∙ at_is))) ∙ has)

pub firm_left : (old new : Option Files) (was now : ℕ) (at : List ℕ) → at ≡ pack_text → new ≡ option_map (removed at) old → now ≡ was → IsFirmFile old was manifest_text → IsFirmFile new now manifest_text
firm_left None new was now at at_is gone same firm = subst (λ o. IsFirmFile o now manifest_text) (sym gone) tt
firm_left (Some m) new was now at at_is gone same firm = subst (λ o. IsFirmFile o now manifest_text) (sym gone) (firm.0, get_left m at manifest_text (λ e. apart (sym (e ∙ at_is))) ∙ firm.1, same ∙ firm.2)

pub not_pack : (at : List ℕ) → at ≡ pack_text → manifest_text ≡ at → ⊥
not_pack at at_is e = apart (sym (e ∙ at_is))

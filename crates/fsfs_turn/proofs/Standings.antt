-- Each image of a store stands for a history.
use Rattle.std.proofs.Common.{◌≡◌, ◌<◌, ◌≤◌, ℕ, suc, zero, List, [], ◌∷◌, ◌++◌, length, refl, sym, ap, subst, ◌∙◌, arith, drop}
use Rattle.std.specs.Prelude.{Option, Some, None, slice_get}
use Rattle.std.specs.FinMap.{get}
use Rattle.std.proofs.lemmas.Option.{slice_get_within}
use Rattle.fsfs_base.specs.Files.{Files}
use Rattle.fsfs_tree.specs.Dated.{last_of}
use Rattle.fsfs_tree.specs.Revisions.{Revision}
use Rattle.fsfs_layout.specs.FileNames.{only_name}
use Rattle.fsfs_layout.specs.Small.{IsRevLine, IsBase36Line}
use Rattle.fsfs_layout.specs.Layouts.{shard_size}
use Rattle.fsfs_layout.specs.declared.layout.Layout.{Layout}
use Rattle.fsfs_layout.specs.declared.only_file.OnlyFile.TheVariants as only
use Rattle.fsfs_revision.specs.RevBytes.{or_missing, rev_bytes, props_bytes}
use Rattle.fsfs_revision.specs.Ancestry.Bounded.{AreSameUpTo}
use Rattle.fsfs_revision.proofs.BoundedIds.{ids_same}
use Rattle.fsfs_stands.specs.History.{ShowsRevision, ShowsHistory}
use Rattle.fsfs_stands.proofs.Seen.{revision_same}
use Rattle.fsfs_disk.specs.Trace.{Trace, files_now}
use Rattle.fsfs_disk.specs.Trace as real
use Rattle.fsfs_base.specs.declared.places.place.DiskPlace.{DiskPlace}
use Rattle.fsfs_stands.specs.Files.{StandsFor}
use Rattle.fsfs_machine.specs.declared.contents.FileName.TheVariants.{Counter}
use Rattle.fsfs_machine.specs.declared.contents.Contents.TheVariants.{Number}
use Rattle.fsfs_machine.specs.declared.machine.Recorded.{Recorded}
use Rattle.fsfs_machine.specs.Disk.{Disk, found, IsImage}
use Rattle.fsfs_machine.specs.Machine.{revisions}
use Rattle.fsfs_machine.specs.Kept.{Follows, FloorIs}
use Rattle.fsfs_machine.proofs.Growing.{revisions_length}
use Rattle.fsfs_images.specs.RealNames.{machine_name}
use Rattle.fsfs_images.specs.Shown.{AreRead}
use Rattle.fsfs_images.proofs.Showing.{image_read, kept_same}
use Rattle.fsfs_turn.specs.Bytes.{bytes_beside, bytes_of}
use Rattle.fsfs_turn.specs.Past.{doubt, IsPart, IsWhole, IsPast, HasCounter, StoodFor}
use Rattle.fsfs_turn.specs.Found.{floor_read, text_there}
use Rattle.fsfs_turn.specs.Standing.{no_others, Knows}
use Rattle.fsfs_turn.specs.Whole.{HasHistory}
use Rattle.fsfs_turn.specs.Stands.{HasOwnFiles, ImagesStand}
use Rattle.fsfs_turn.specs.Views.{View, with_txns}
use Rattle.fsfs_turn.proofs.Due.{at_found}
use Rattle.fsfs_turn.proofs.Moments.{stood_for}
use Rattle.fsfs_turn.proofs.OwnFiles.{own_beside, own_moves}
use Rattle.fsfs_turn.proofs.Locking.{seen_within}
use Rattle.fsfs_turn.proofs.Stepping.{take_drop}
use Rattle.fsfs_turn.proofs.Wholeness.{has_history, part_shown, if_doubtful}

-- ---- revisions without the bytes beside them

pub there_below : (xs : List Recorded) (r : ℕ) → r < length xs → (x : Recorded) × (slice_get xs r ≡ Some x)
there_below [] r less = absurd (omega (arith, less))
there_below (x ∷ xs) zero less = (x, refl)
there_below (x ∷ xs) (suc r) less = there_below xs r (omega (arith, less))

in_revisions : (g : List Recorded) (r : ℕ) (z : Revision) → slice_get (revisions g) r ≡ Some z → (x : Recorded) × (slice_get g r ≡ Some x) × (x.revision ≡ z)
in_revisions [] r z e = let f : None ≡ Some z = e in absurd cc
in_revisions (x ∷ g) zero z e = let same : x.revision ≡ z = (let f : Some x.revision ≡ Some z = e in cc) in (x, refl, same)
in_revisions (x ∷ g) (suc r) z e = in_revisions g r z e

-- ---- the files that no turn touches

-- files that stand for a history have them in their formats
pub own_opened : (m : Files) (h : List Revision) (s : StandsFor m h) → HasOwnFiles m s.opened.layout
own_opened m h s = record { format = s.small.format; uuid = (s.opened.uuid, s.small.behind.uuid) }

-- ---- the history

shows_history : (layout : Layout) (m : Files) (g : List Recorded) → HasHistory layout m g → ShowsHistory (rev_bytes layout m) (props_bytes layout m) (revisions g)
shows_history layout m g has = record { each = each; ids = ids_same (last_of (revisions g)) (bytes_of g) (rev_bytes layout m) (same (last_of (revisions g)) (omega (arith, long, has.names.last))) has.shown.ids }
  where
    long : length (revisions g) ≡ length g
    long = revisions_length g

    same_at : (q : ℕ) → q < length g → bytes_of g q ≡ rev_bytes layout m q
    same_at q less =
        let x = there_below g q less in
        ap (λ o. bytes_beside q o) x.1 ∙ sym (has.each q x.0 x.1).bytes

    same : (r : ℕ) → r < length g → AreSameUpTo r (bytes_of g) (rev_bytes layout m)
    same r less q le = same_at q (omega (arith, less, le))

    each : (r : ℕ) (z : Revision) → slice_get (revisions g) r ≡ Some z → ShowsRevision (rev_bytes layout m) (props_bytes layout m) r z
    each r z e =
        let x = in_revisions g r z e in
        let files = has.each r x.0 x.1 in
        let one = has.shown.each r x.0 x.1 in
        let shows : ShowsRevision (bytes_of g) (props_bytes layout m) r x.0.revision =
        record { bytes = x.0.bytes; bytes_are = ap (λ o. bytes_beside r o) x.1; tree = one.tree; changes = one.changes; file = files.text; file_is = ap (or_missing r) files.there; properties = files.dump; dated = one.dated } in
        revision_same r (bytes_of g) (rev_bytes layout m) (same r (slice_get_within g r x.0 x.1)) (props_bytes layout m) (props_bytes layout m) z refl
        (subst (λ y. ShowsRevision (bytes_of g) (props_bytes layout m) r y) x.2 shows)

-- Files that have a history, and the small files beside it, stand for it.
module _ (layout : Layout) (f : ℕ) (m : Files) (e : Disk) (g : List Recorded) (whole : IsWhole layout f) (read : AreRead layout m e) (floor : FloorIs f e) (count : HasCounter e) (within : f ≤ length g) (has : HasHistory layout m g) (own : HasOwnFiles m layout) where
  counter : (text : List ℕ) × (get m (only_name only.TxnCurrent) ≡ Some text) × IsBase36Line text count.0
  counter = at_found layout Counter (get m (machine_name layout Counter)) (found e Counter) (Number count.0) count.1 (read.read Counter tt)

  pub files_stand : StandsFor m (revisions g)
  files_stand = record {
    opened = record { uuid = own.uuid.0; layout = layout; youngest = has.names.number; min_unpacked_rev = f; next_txn = record { number = count.0; small = omega (arith, counter.2.fits) } };
    small = record {
      format = own.format;
      packs = whole.packs;
      behind = record {
        uuid = own.uuid.1;
        youngest = text_there m (only_name only.Current) has.names.text IsRevLine has.names.number has.names.there has.names.line;
        min_unpacked_rev = floor_read layout f m e read floor whole;
        within = omega (arith, has.names.last, within);
        next_txn = text_there m (only_name only.TxnCurrent) counter.0 IsBase36Line count.0 counter.1 counter.2;
      };
    };
    count = let a : length (revisions g) ≡ length g = revisions_length g in omega (arith, a, has.names.last);
    history = shows_history layout m g has;
  }

module _ (layout : Layout) (low young : ℕ) (stuck : Option DiskPlace) (t : Trace) (v : View) (known : Knows layout low young stuck (Some t) v) (own : HasOwnFiles (files_now t) layout) (m : Files) (image : real.IsImage t.first t.operations m) where
  e : (d : Disk) × IsImage known.0.disk d × AreRead layout m d
  e = image_read layout no_others t.first t.operations known.0.disk known.1.trace m image

  stood : StoodFor layout (length known.0.history) known.0.history (doubt known.0.lock) e.0
  stood = stood_for layout (length known.0.history) (with_txns [] known.0) known.1.size known.1.whole known.1.kept (omega arith) e.0 e.1

  p : IsPast (shard_size layout) (length known.0.history) stood.0 known.0.history (doubt known.0.lock) e.0
  p = stood.3

  some : 0 < length p.0
  some = omega (arith, p.1.1.2)

  has : HasHistory layout m p.0
  has = has_history layout stood.0 m e.0 p.0 stood.1 stood.2 e.2 p.1 (part_shown known.0.history known.0.lock p.0 known.1.shown known.1.coming some p.3)

  own_there : HasOwnFiles m layout
  own_there = own_moves (files_now t) m layout (λ f is. kept_same layout no_others (only_name f) refl (own_beside layout f is) t.first t.operations known.0.disk known.1.trace m image) own

  -- it stands for a part that has all of the history
  pub part_stands : (g : List Recorded) × IsPart known.0.history (doubt known.0.lock) g × (length known.0.history ≤ length g) × HasHistory layout m g × StandsFor m (revisions g)
  part_stands = (p.0, p.3, p.2, has, files_stand layout stood.0 m e.0 p.0 stood.1 e.2 stood.2 stood.4 p.4 has own_there)

pub images_stand : ImagesStand
images_stand layout low young stuck t v known own m image =
    let p = part_stands layout low young stuck t v known own m image in (
      known.0.history,
      doubt known.0.lock,
      p.0,
      (drop v.pass.seen known.0.history, take_drop v.pass.seen known.0.history ∙ ap (λ l. l ++ drop v.pass.seen known.0.history) (sym known.2.seen)),
      p.1,
      omega (arith, p.2, seen_within known.0 v known.2),
      p.4,
      if_doubtful (Follows known.0.history) known.0.lock known.1.kept.next,
    )

-- What files stand for depends on the bytes of no revision above the youngest.
use Rattle.std.proofs.Common.{◌≡◌, ◌≤◌, ◌-◌, ℕ, suc, List, length, sym, subst, ◌∙◌, arith}
use Rattle.std.specs.Prelude.{Ok, Some, slice_get}
use Rattle.std.proofs.lemmas.Option.{slice_get_within}
use Rattle.std.specs.FinMap.{FinMap, get}
use Rattle.fsfs_base.specs.Paths.{path_cmp}
use Rattle.fsfs_base.specs.declared.kind.Kind.{Kind}
use Rattle.fsfs_tree.specs.declared.change_map.Change.{Change}
use Rattle.fsfs_tree.specs.Revisions.{Revision}
use Rattle.fsfs_tree.specs.Dated.{last_of}
use Rattle.fsfs_revision.specs.Told.{RevisionBytes}
use Rattle.fsfs_revision.specs.RevBytes.{rev_bytes, props_bytes}
use Rattle.fsfs_noderev.specs.declared.changes.item.ChangeItem.{ChangeItem}
use Rattle.fsfs_revision.specs.Shows.IdRules.{IdRule}
use Rattle.fsfs_revision.specs.Ancestry.Bounded.{AreSameUpTo}
use Rattle.fsfs_revision.proofs.Bounded.{back_same, of_id_same, stands_same_bytes, shows_same}
use Rattle.fsfs_revision.proofs.BoundedIds.{ids_same}
use Rattle.fsfs_stands.specs.Changes.{IsKindOf, Said, Named, There, NotThere, IsChangeOf, FitsTree, AreChangesOf}
use Rattle.fsfs_stands.specs.History.{ShowsRevision, ShowsHistory}
use Rattle.fsfs_stands.specs.Files.{StandsFor}
use Rattle.fsfs_stands.specs.Seen.{HaveSameRevision, LaterFilesAreNotSeen}

module _ (r : ℕ) (look other : RevisionBytes) (same : AreSameUpTo r look other) where
  kind_same : (item : ChangeItem) (kind : Kind) → IsKindOf look r item kind → IsKindOf other r item kind
  kind_same item _ (Said kind e) = Said kind e
  kind_same item _ (Named u e f before named) = Named u e f before (of_id_same r look other same item.id before (Ok u) named)
  kind_same item _ (There v e f at) = There v e f (stands_same_bytes r look other same r (omega arith) item.path v at)
  kind_same item _ (NotThere e f never) = NotThere e f (λ v at. never v (stands_same_bytes r other look (back_same r look other same) r (omega arith) item.path v at))

  change_same : (item : ChangeItem) (change : Change) → IsChangeOf look r item change → IsChangeOf other r item change
  change_same item change w = record {
    action = w.action;
    kind = kind_same item change.kind w.kind;
    text_changed = w.text_changed;
    props_changed = w.props_changed;
    source = w.source;
  }

  fits_same : (item : ChangeItem) → FitsTree look r item → FitsTree other r item
  fits_same item w = record {
    gone = λ deleted v at. w.gone deleted v (stands_same_bytes r other look (back_same r look other same) r (omega arith) item.path v at);
    there = λ stays. (let t = w.there stays in (t.0, stands_same_bytes r look other same r (omega arith) item.path t.0 t.1, t.2));
  }

  changes_same : (bytes : List ℕ) (changes : FinMap path_cmp Change) → AreChangesOf look r bytes changes → AreChangesOf other r bytes changes
  changes_same bytes changes w = record {
    items = w.items;
    items_are = w.items_are;
    each = λ item in_it. (let e = w.each item in_it in (e.0, change_same item e.0 e.1, e.2));
    only = w.only;
    fits = λ item in_it. fits_same item (w.fits item in_it);
  }

  pub revision_same : (props others : RevisionBytes) (revision : Revision) → props r ≡ others r → ShowsRevision look props r revision → ShowsRevision other others r revision
  revision_same props others revision kept w = record {
    bytes = w.bytes;
    bytes_are = sym (same r (omega arith)) ∙ w.bytes_are;
    tree = shows_same r look other same (get revision.tree) w.tree;
    changes = changes_same w.bytes revision.changes w.changes;
    file = w.file;
    file_is = sym kept ∙ w.file_is;
    properties = w.properties;
    dated = w.dated;
  }

pub later_not_seen : LaterFilesAreNotSeen
later_not_seen files other h s small same = record { opened = s.opened; small = small; count = s.count; history = record { each = each; ids = ids } }
  where
    look' : RevisionBytes
    look' = rev_bytes s.opened.layout files

    other' : RevisionBytes
    other' = rev_bytes s.opened.layout other

    up_to : (r : ℕ) → r ≤ s.opened.youngest → AreSameUpTo r look' other'
    up_to r le q low = (same q (omega (arith, le, low))).bytes

    count : length h ≡ suc s.opened.youngest
    count = s.count

    each : (r : ℕ) (revision : Revision) → slice_get h r ≡ Some revision → ShowsRevision other' (props_bytes s.opened.layout other) r revision
    each r revision is =
        let within = slice_get_within h r revision is in
        let le : r ≤ s.opened.youngest = omega (arith, within, count) in
        revision_same r look' other' (up_to r le) (props_bytes s.opened.layout files) (props_bytes s.opened.layout other) revision (same r le).props (s.history.each r revision is)

    ids : IdRule other' (last_of h)
    ids = ids_same (last_of h) look' other' (up_to (last_of h) (omega (arith, count))) s.history.ids

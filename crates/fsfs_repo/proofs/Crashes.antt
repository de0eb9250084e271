-- What is known of a repository says what a crash leaves.
use Rattle.std.specs.Prelude.{ℕ, Option, Some, None}
use Rattle.fsfs_layout.specs.declared.layout.Layout.{Layout}
use Rattle.fsfs_disk.specs.Trace.{Trace}
use Rattle.fsfs_base.specs.declared.places.place.DiskPlace.{DiskPlace}
use Rattle.fsfs_turn.specs.Alone.{KnowsAlone}
use Rattle.fsfs_turn.specs.Views.{View}
use Rattle.fsfs_turn.proofs.LoneImages.{lone_images, nothing_in_doubt}
use Rattle.fsfs_turn.proofs.Wholeness.{seen_is_whole}
use Rattle.fsfs_repo.specs.Owned.Crashes.{CrashesLeave}

pub survives : (layout : Layout) (low young : ℕ) (stuck : Option DiskPlace) (told : Option Trace) (v : View) → KnowsAlone layout low young stuck told v → CrashesLeave layout told v
survives layout low young stuck None v known = tt
survives layout low young stuck (Some t) v known =
    let l = lone_images layout low young stuck t v known in
    record {
      doubt = l.doubt;
      follows = l.follows;
      left = l.left;
      moments = l.moments;
      own = known.2;
      whole = λ m image r x at. (seen_is_whole layout low young stuck t v known.0 m image).0 r x at;
      named = λ m image. (seen_is_whole layout low young stuck t v known.0 m image).1;
      stands = λ m image. let s = l.now m image in (s.0, s.1, s.2, s.4);
      doubtless = λ outside harmless m image. ((nothing_in_doubt layout low young stuck t v known outside harmless).1 m image).1;
    }

-- What a reader of a repository tells.
use Rattle.std.proofs.Common.{◌≡◌, ◌<◌, ℕ, length, refl, sym, ap, subst, ◌∙◌, arith}
use Rattle.std.specs.Prelude.{Option, Some}
use Rattle.fsfs_tree.specs.Dated.{last_of}
use Rattle.fsfs_fetch.specs.Kept.{telling}
use Rattle.fsfs_fetch.specs.declared.manifests.KeptManifest.{KeptManifest}
use Rattle.fsfs_fetch.proofs.TellingLemmas.{below_same}
use Rattle.fsfs_machine.specs.Machine.{revisions}
use Rattle.fsfs_machine.proofs.Growing.{revisions_length}
use Rattle.fsfs_turn.specs.Views.{View}
use Rattle.fsfs_turn.specs.Telling.{OwnedState, owned_view}
use Rattle.fsfs_turn.specs.Seen.{TellsRevisions}
use Rattle.fsfs_commit.specs.Transaction.SeenLemmas.{shown_trees}
use Rattle.fsfs_repo.specs.Owned.Alone.{KnowsIn}
use Rattle.fsfs_repo.specs.Owned.Readers.{TellsSeenAll}
use Rattle.fsfs_repo.proofs.Shown.{seen_shows}
use Rattle.fsfs_repo.proofs.OwnedRepoShown.{known_shown}

young_told : (s : OwnedState) (floor : ℕ) (kept : Option KeptManifest) → (telling (owned_view s) floor kept).youngest ≡ Some s.young
unfolding telling
young_told s floor kept = refl

-- a reader over the turns in this state tells so, where it is as deep as another state
youngest_of : (s other : OwnedState) (floor : ℕ) (kept : Option KeptManifest) → (telling (owned_view other) floor kept).below ≡ s → (telling (owned_view other) floor kept).youngest ≡ Some s.young
youngest_of s other floor kept below = young_told other floor kept ∙ ap (λ z. Some z.young) (sym (below_same (owned_view other) floor kept) ∙ below)

pub tells_all : (s other : OwnedState) (floor : ℕ) (kept : Option KeptManifest) (v : View) → KnowsIn s v → (telling (owned_view other) floor kept).below ≡ s → TellsRevisions v (telling (owned_view other) floor kept)
    → TellsSeenAll v (telling (owned_view other) floor kept)
tells_all s other floor kept v known below told = record {
  revisions_are = told;
  revs = λ r le. told.revs r (omega (arith, le, count, known.1.all));
  shown = shown_trees v.seen some (seen_shows v.seen (known_shown s.layout s.floor s.young s.stuck s.trace v known) some);
  youngest = youngest_of s other floor kept below ∙ ap (λ n. Some n) last;
  known = subst (λ z. KnowsIn z v) (sym below) known;
}
  where
    count : length (revisions v.seen) ≡ length v.seen
    count = revisions_length v.seen

    some : 0 < length v.seen
    some = omega (arith, known.1.all)

    last : s.young ≡ last_of (revisions v.seen)
    last = omega (arith, count, known.1.all)

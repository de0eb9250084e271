use Rattle.std.proofs.Common.{sym, ap, subst, ◌∙◌}
use Rattle.fsfs_tree.specs.Revisions.{tree_of}
use Rattle.fsfs_tree.specs.Dated.{last_of}
use Rattle.fsfs_draft.specs.Own.{draft_tree}
use Rattle.fsfs_draft.specs.Drafts.{IsDraft, bare}
use Rattle.fsfs_machine.specs.Machine.{revisions}
use Rattle.fsfs_turn.specs.Bytes.{bytes_of}
use Rattle.fsfs_commit.proofs.transaction.laws.txns_show_what_they_mean.Goals as goal

pub returns : goal.returns
returns c = λ h name base settled x is.
    let d = is.stands.shows.0.shows in
    record {
      own = d.own;
      draft = subst (λ b. IsDraft (bytes_of h) (last_of (revisions h)) b name settled d.own) (sym is.on) d.is_draft;
      shows_same = λ p. d.each p ∙ ap (λ b. bare (draft_tree (tree_of (revisions h)) d.own (tree_of (revisions h) b) p)) (sym is.on);
      changes_same = d.items;
    }

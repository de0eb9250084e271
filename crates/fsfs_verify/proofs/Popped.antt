-- The walk behind the entry that is taken next.
use Rattle.std.proofs.Common.{◌≡◌, ℕ, ◌∷◌, length, sym, subst}
use Rattle.std.specs.Prelude.{Contains}
use Rattle.fsfs_revision.specs.declared.damage.DamageKind.TheVariants as what
use Rattle.fsfs_revision.specs.declared.wrong.Wrong.{Wrong}
use Rattle.fsfs_revision.specs.Damage.Damages.{damaged, place_of}
use Rattle.fsfs_noderev.specs.declared.node_rev.NodeRev.{NodeRev}
use Rattle.fsfs_revision.specs.Told.{RevisionBytes}
use Rattle.fsfs_revision.specs.Shows.Reading.{DirEntry}
use Rattle.fsfs_dag.specs.Seen.{IsSeen}
use Rattle.fsfs_dag.specs.TreeWalks.{Left, left}
use Rattle.fsfs_dag.specs.declared.tree_walk.TreeWalk.{TreeWalk}
use Rattle.fsfs_verify.specs.declared.nodes.Copied.{Copied}
use Rattle.fsfs_verify.specs.declared.nodes.NewNodes.{NewNodes}
use Rattle.fsfs_verify.specs.declared.parts.Parts.{Parts}
use Rattle.fsfs_verify.specs.LinksUp.{LeadsUp}
use Rattle.fsfs_verify.specs.Walks.{AreBelow, IsWalk, HasWalk}

-- a copy that stands elsewhere, or at another path too, below the root at this place
abbrev pub IsStray : NewNodes → ℕ → Wrong → Type 0
IsStray nodes root w = (c : Copied) × Contains nodes.copies.items c × (LeadsUp nodes.links root c.place c.path → ⊥) × (w ≡ damaged (place_of nodes.rev c.place) what.CopyId)

pub popped : (look : RevisionBytes) (r : ℕ) (root : NodeRev) (old : NewNodes) (rest : TreeWalk) (parts : Parts) (next : ℕ × DirEntry) → left old.walk ≡ next ∷ left rest → rest.seen ≡ old.walk.seen
    → HasWalk look r root (left old.walk) old parts → HasWalk look r root (next ∷ left rest) (record old { walk = rest }) parts
popped look r root old rest parts next is seen h = record {
  begun = h.begun;
  copied = h.copied;
  drawn = h.drawn;
  done = h.done;
  rev = h.rev;
  seen = subst (IsSeen look) (sym seen) h.seen;
  below = subst (λ (l : Left). AreBelow (length old.above.items) l) is h.below;
  brought = h.brought;
  walk = subst (λ (l : Left). IsWalk look r root l old.above.items old.links old.copies.items h.begun h.copied h.drawn h.done) is h.walk;
}

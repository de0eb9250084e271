-- What files stand for is a history of the flat model.
use Rattle.std.proofs.Common.{◌≡◌, ◌≤◌, ◌-◌, ℕ, suc, List, length, sym, ap, subst, inl, inr, arith}
use Rattle.std.specs.Prelude.{Option, Some, slice_get}
use Rattle.std.proofs.lemmas.Option.{slice_get_cases}
use Rattle.std.specs.FinMap.{get}
use Rattle.fsfs_tree.specs.Nodes.{TreeFunction}
use Rattle.fsfs_tree.specs.Revisions.{Revision, node_in, tree_of}
use Rattle.fsfs_tree.specs.Dated.{last_of}
use Rattle.fsfs_tree.specs.Histories.{IsHistory}
use Rattle.fsfs_revision.specs.Told.{RevisionBytes}
use Rattle.fsfs_revision.specs.RevBytes.{rev_bytes, props_bytes}
use Rattle.fsfs_revision.specs.Shows.Shown.{Shows}
use Rattle.fsfs_revision.specs.Shows.IdRules.{IdRule}
use Rattle.fsfs_revision.specs.Ancestry.Trees.{ShowTrees}
use Rattle.fsfs_revision.proofs.Revisions.{shown_revisions}
use Rattle.fsfs_stands.specs.History.{ShowsHistory}
use Rattle.fsfs_stands.specs.Files.{StandsFor}
use Rattle.fsfs_stands.specs.Histories.{ShownIsAHistory, StoodForIsAHistory}

module _ (look props : RevisionBytes) (h : List Revision) (last : ℕ) (count : length h ≡ suc last) (shows : ShowsHistory look props h) where
  there : (r : ℕ) → r ≤ last → (revision : Revision) × (slice_get h r ≡ Some revision)
  there r le = elim ((slice_get_cases h r).1) [
    | inl x ↦ (x.0, x.2)
    | inr past ↦ (let over = past.0 in absurd (omega (arith, over, le, count)))
  ]

  pub trees : ShowTrees look last (tree_of h)
  trees = record {
    each = λ r le.
        (let x = there r le in
        let same : tree_of h r ≡ get x.0.tree = ap (λ (o : Option Revision). node_in o) x.1 in
        subst (λ (t : TreeFunction). Shows look r t) (sym same) (shows.each r x.0 x.1).tree);
    ids = subst (λ (n : ℕ). IdRule look n) (let e : last_of h ≡ last = omega (arith, count) in e) shows.ids;
  }

  history : IsHistory h
  history = record { last = last; counted = count; revisions = shown_revisions look last (tree_of h) trees }

pub shown_history : ShownIsAHistory
shown_history look props h last count shows = history look props h last count shows

pub stood_for_history : StoodForIsAHistory
stood_for_history files h s = history (rev_bytes s.opened.layout files) (props_bytes s.opened.layout files) h s.opened.youngest s.count s.history

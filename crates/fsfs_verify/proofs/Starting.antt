-- The walk at its beginning: the root was checked by itself.
use Rattle.std.proofs.Common.{◌≡◌, ◌≤◌, ◌<◌, ◌⊎◌, ◌+◌, ◌++◌, ℕ, List, [], ◌∷◌, length, refl, sym, ap, subst, ◌∙◌, inl, inr}
use Rattle.std.specs.Prelude.{Contains, Ok, Option, Some, None, slice_get}
use Rattle.std.proofs.lemmas.List.Elements.{Contains-push, Contains-push_cases}
use Rattle.fsfs_base.specs.declared.kind.Kind.TheVariants.{Dir}
use Rattle.fsfs_noderev.specs.declared.node_id.Part.{Part}
use Rattle.fsfs_noderev.specs.declared.node_rev.NodeRev.{NodeRev}
use Rattle.fsfs_revision.specs.Told.{RevisionBytes}
use Rattle.fsfs_revision.specs.Shows.Reading.{RootOf}
use Rattle.fsfs_revision.specs.Shows.Chains.{own_rev}
use Rattle.fsfs_revision.proofs.TreeLaw.{root_home}
use Rattle.fsfs_dag.specs.TreeWalks.{Left, left}
use Rattle.fsfs_dag.specs.Views.{home_of}
use Rattle.fsfs_sound.specs.Revisions.{AreSoundBefore}
use Rattle.fsfs_sound.specs.Written.{IsNewAt, Precedes}
use Rattle.fsfs_verify.specs.declared.above.Above.{Above}
use Rattle.fsfs_verify.specs.declared.links.Links.{Links}
use Rattle.fsfs_verify.specs.declared.nodes.Copied.{Copied}
use Rattle.fsfs_verify.specs.declared.nodes.NewNodes.{NewNodes}
use Rattle.fsfs_verify.specs.declared.parts.Parts.{Parts}
use Rattle.fsfs_verify.specs.AllWritten.{AreBrought}
use Rattle.fsfs_verify.specs.LinksUp.{LinkValue, link_at}
use Rattle.fsfs_verify.specs.Roots.{IsRootBehind, IsLastRoot}
use Rattle.fsfs_verify.specs.Steps.{IsNewWalk, TakesNode}
use Rattle.fsfs_verify.specs.Walks.{IsStack, IsChecked, AreLinked, AreCopied, IsWalk}
use Rattle.fsfs_verify.proofs.EarlierPreds.{root_earlier}
use Rattle.fsfs_verify.proofs.Growing.{copied_more, checked_copy, text_of, IsGrown, grown}
use Rattle.fsfs_verify.proofs.ListLemmas.{contains_nil}
use Rattle.fsfs_verify.proofs.Meeting.{met_none, brings_copy, met_node}

pub stack_none : (look : RevisionBytes) (links : Links) (done : List NodeRev) → IsStack look [] [] links done
stack_none look links done = record {
  dirs = λ i a is. absurd cc;
  other = λ i j a b is also same. absurd cc;
  entries = λ level entry there. absurd (contains_nil (level, entry) there);
  fresh = λ level entry a place link there. absurd (contains_nil (level, entry) there);
  apart = tt;
}

only_root : (v u : NodeRev) → Contains ([] ++ v ∷ []) u → v ≡ u
only_root v u there = by (Contains-push_cases [] v u there)
  where
    by : Contains [] u ⊎ (v ≡ u) → v ≡ u
    by (inl none) = absurd (contains_nil u none)
    by (inr same) = same

linked_none : (look : RevisionBytes) (links : Links) (v : NodeRev) → ((place : ℕ) → link_at links place ≡ None) → AreLinked look v links ([] ++ v ∷ [])
linked_none look links v none = record {
  top = none (home_of v).offset;
  linked = λ u there. inl (sym (only_root v u there));
  only = λ place link is. absurd (let e = sym (none place) ∙ is in cc);
}

copied_none : AreCopied [] []
copied_none = record { each = λ v from there is. absurd (contains_nil v there); only = λ c there. absurd (contains_nil c there) }

module _ (look props : RevisionBytes) (r : ℕ) (sound : AreSoundBefore look props r) (v : NodeRev) (is_root : RootOf look r (Ok v)) (pred : Option NodeRev) (precedes : Precedes look v pred)
    (last : Option NodeRev) (behind : IsRootBehind look v last) (last_is : IsLastRoot look r last)
    (begun copied drawn : List Part) (all : AreBrought look r begun copied drawn) (old new : NewNodes) (parts : Parts)
    (start : IsNewWalk r old) (t : TakesNode look r 0 begun copied drawn v pred old new parts) where
  own : own_rev v ≡ r
  own = (root_home look r v is_root).1

  kind : v.kind ≡ Dir
  kind = (root_home look r v is_root).2

  at : IsNewAt look r [] v
  at = record { stands = (v, is_root, refl); own = own }

  stack : IsStack look (left old.walk) old.above.items old.links ([] ++ v ∷ [])
  stack = subst (λ (a : List Above). IsStack look (left old.walk) a old.links ([] ++ v ∷ [])) (sym start.above) (subst (λ (l : Left). IsStack look l [] old.links ([] ++ v ∷ [])) (sym start.left_is) (stack_none look old.links ([] ++ v ∷ [])))

  grown_root : IsGrown look r v (left new.walk) new.above.items old.links ([] ++ v ∷ []) drawn
  grown_root = grown look r v old.links drawn [] v pred old new stack (λ dir there is_dir. absurd (contains_nil dir there)) (inr (start.above, refl, kind))
      (λ i a is. absurd (let e = subst (λ (xs : List Above). slice_get xs i ≡ Some a) start.above is in cc))
      (λ place link is. absurd (let e = sym (start.links place) ∙ is in cc)) precedes 0 (ap (λ (xs : List Above). length xs) (sym start.above)) t.contents

  checked : IsChecked look r v
  checked = record {
    stands = ([], at);
    pred = (pred, precedes);
    earlier = root_earlier look r v last behind.follows last_is;
    props = t.props;
    text = text_of look r 0 v pred old new t.contents;
    copy = checked_copy look r drawn copied t.copied_now v old.copies.items new.copies.items [] t.copy;
  }

  pub walk_root : IsWalk look r v (left new.walk) new.above.items old.links new.copies.items t.begun_now t.copied_now drawn ([] ++ v ∷ [])
  walk_root = record {
    top = (is_root, Contains-push [] v);
    checked = λ u there. subst (λ (x : NodeRev). IsChecked look r x) (only_root v u there) checked;
    entries = grown_root.entries;
    first = grown_root.first;
    stack = grown_root.stack;
    links = linked_none look old.links v start.links;
    copies = copied_more look r drawn copied t.copied_now v old.copies.items new.copies.items [] (subst (λ (cs : List Copied). AreCopied cs []) (sym start.copies) copied_none) t.copy;
    met = met_node look r begun copied drawn [] (met_none look r props sound begun copied drawn all) v t.begun_now t.copied_now t.begins (brings_copy look r drawn v copied t.copied_now old.copies.items new.copies.items t.copy);
  }

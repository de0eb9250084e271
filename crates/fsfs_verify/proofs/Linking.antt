-- Where what was checked is named, with one name more.
use Rattle.std.proofs.Common.{◌≡◌, ◌⊎◌, ℕ, Bool, true, false, List, refl, sym, ap, subst, ◌∙◌, inl, inr}
use Rattle.std.specs.Prelude.{◌≢◌, ◌==◌, Contains, Ok, Option, Some, None, if◌then◌else◌}
use Rattle.fsfs_base.specs.Paths.{PathName}
use Rattle.fsfs_base.specs.declared.kind.Kind.TheVariants.{Dir}
use Rattle.fsfs_noderev.specs.declared.node_id.Part.{Part}
use Rattle.fsfs_noderev.specs.declared.node_rev.NodeRev.{NodeRev}
use Rattle.fsfs_revision.specs.Told.{RevisionBytes}
use Rattle.fsfs_revision.specs.Shows.Reading.{DirEntry}
use Rattle.fsfs_dag.specs.Views.{home_of}
use Rattle.fsfs_dag.proofs.IdLemmas.{equal, itself}
use Rattle.fsfs_verify.specs.declared.links.Links.{Links}
use Rattle.fsfs_verify.specs.LinksUp.{LinkValue, link_at, named_by}
use Rattle.fsfs_verify.specs.Walks.{IsLinked, IsNamedIn, IsLink, AreLinked}
use Rattle.fsfs_verify.proofs.Decisions.{number_or}

-- a directory and a name were put to a place
abbrev pub IsPut : Links → Links → ℕ → ℕ → PathName → Type 0
IsPut links new place dir name = (at : ℕ) → link_at new at ≡ (if at == place then Some (named_by dir name (link_at links place)) else link_at links at)

module _ (links new : Links) (place dir : ℕ) (name : PathName) (put : IsPut links new place dir name) where
  pub put_here : link_at new place ≡ Some (named_by dir name (link_at links place))
  put_here = put place ∙ ap (λ (b : Bool). if b then Some (named_by dir name (link_at links place)) else link_at links place) (itself place)

  pub put_some : (at : ℕ) → at ≡ place → link_at new at ≡ Some (named_by dir name (link_at links place))
  put_some at same = ap (λ (n : ℕ). link_at new n) same ∙ put_here

  pub put_other : (at : ℕ) → at ≢ place → link_at new at ≡ link_at links at
  put_other at other = by (at == place) refl
    where
      by : (b : Bool) → (at == place) ≡ b → link_at new at ≡ link_at links at
      by true e = absurd (other (equal at place e))
      by false e = put at ∙ ap (λ (b : Bool). if b then Some (named_by dir name (link_at links place)) else link_at links at) e

  -- what was linked is linked
  pub linked_kept : (d w : NodeRev) (n : PathName) → IsLinked links d w n → IsLinked new d w n
  linked_kept d w n h = by (number_or (home_of w).offset place)
    where
      by : ((home_of w).offset ≡ place) ⊎ ((home_of w).offset ≢ place) → IsLinked new d w n
      by (inl same) =
          let there : link_at links place ≡ Some h.0 = subst (λ (x : ℕ). link_at links x ≡ Some h.0) same h.1 in
          (named_by dir name (Some h.0), put_some (home_of w).offset same ∙ ap (λ (o : Option LinkValue). let p : Option LinkValue = Some (named_by dir name o) in p) there, inl refl)
      by (inr other) = (h.0, put_other (home_of w).offset other ∙ h.1, h.2)

  -- and so is what was put
  pub linked_now : (d w : NodeRev) → (home_of w).offset ≡ place → (home_of d).offset ≡ dir → IsLinked new d w name
  linked_now d w here dir_is = by (link_at links place) refl
    where
      by : (o : Option LinkValue) → link_at links place ≡ o → IsLinked new d w name
      by None e = (named_by dir name None, put_some (home_of w).offset here ∙ ap (λ (o : Option LinkValue). let p : Option LinkValue = Some (named_by dir name o) in p) e, inr (refl, sym dir_is, refl))
      by (Some link) e = (named_by dir name (Some link), put_some (home_of w).offset here ∙ ap (λ (o : Option LinkValue). let p : Option LinkValue = Some (named_by dir name o) in p) e, inl refl)

named_more : (look : RevisionBytes) (done more : List NodeRev) → ((w : NodeRev) → Contains done w → Contains more w) → (v d : NodeRev) (n : PathName) → IsNamedIn look done v d n → IsNamedIn look more v d n
named_more look done more sub v d n h = record { among = sub d h.among; is_dir = h.is_dir; entry = h.entry; listed = h.listed; read = h.read }

link_more : (look : RevisionBytes) (done more : List NodeRev) → ((w : NodeRev) → Contains done w → Contains more w) → (v : NodeRev) (link : LinkValue) → IsLink look done v link → IsLink look more v link
link_more look done more sub v link h = record {
  dir = h.dir;
  place = h.place;
  first = named_more look done more sub v h.dir link.name h.first;
  again = λ e. (let w = h.again e in (w.0, w.1, named_more look done more sub v w.0 w.1 w.2, w.3));
}

module _ (look : RevisionBytes) (root : NodeRev) (links new : Links) (done more : List NodeRev) (v dir : NodeRev) (name : PathName)
    (all : AreLinked look root links done)
    (put : IsPut links new (home_of v).offset (home_of dir).offset name)
    (kept : (w : NodeRev) → Contains done w → Contains more w)
    (cases : (w : NodeRev) → Contains more w → Contains done w ⊎ (v ≡ w))
    (mine : Contains more v)
    (naming : IsNamedIn look more v dir name)
    (no_root : (home_of v).offset ≢ (home_of root).offset)
    (one : (w : NodeRev) → Contains done w → (home_of w).offset ≡ (home_of v).offset → w ≡ v)
    (fresh : (link : LinkValue) → link_at links (home_of v).offset ≡ Some link → link.dir ≡ (home_of dir).offset → link.name ≢ name) where
  top_none : link_at new (home_of root).offset ≡ None
  top_none = put_other links new (home_of v).offset (home_of dir).offset name put (home_of root).offset (λ e. no_root (sym e)) ∙ all.top

  link_there : (w : NodeRev) → Contains more w → (w ≡ root) ⊎ ((link : LinkValue) × (link_at new (home_of w).offset ≡ Some link))
  link_there w there = by (number_or (home_of w).offset (home_of v).offset)
    where
      old : (home_of w).offset ≢ (home_of v).offset → Contains done w ⊎ (v ≡ w) → (w ≡ root) ⊎ ((link : LinkValue) × (link_at new (home_of w).offset ≡ Some link))
      old other (inl h) = on (all.linked w h)
        where
          on : (w ≡ root) ⊎ ((link : LinkValue) × (link_at links (home_of w).offset ≡ Some link)) → (w ≡ root) ⊎ ((link : LinkValue) × (link_at new (home_of w).offset ≡ Some link))
          on (inl is) = inl is
          on (inr l) = inr (l.0, put_other links new (home_of v).offset (home_of dir).offset name put (home_of w).offset other ∙ l.1)
      old other (inr same) = absurd (other (ap (λ (x : NodeRev). (home_of x).offset) (sym same)))

      by : ((home_of w).offset ≡ (home_of v).offset) ⊎ ((home_of w).offset ≢ (home_of v).offset) → (w ≡ root) ⊎ ((link : LinkValue) × (link_at new (home_of w).offset ≡ Some link))
      by (inl same) = inr (named_by (home_of dir).offset name (link_at links (home_of v).offset), put_some links new (home_of v).offset (home_of dir).offset name put (home_of w).offset same)
      by (inr other) = old other (cases w there)

  -- named for the first time, or once more
  link_first : IsLink look more v (named_by (home_of dir).offset name None)
  link_first = record { dir = dir; place = refl; first = naming; again = λ e. absurd cc }

  link_again : (link : LinkValue) → link_at links (home_of v).offset ≡ Some link → IsLink look more v link → IsLink look more v (named_by (home_of dir).offset name (Some link))
  link_again link is h = record { dir = h.dir; place = h.place; first = h.first; again = λ e. (dir, name, naming, by (number_or link.dir (home_of dir).offset)) }
    where
      by : (link.dir ≡ (home_of dir).offset) ⊎ (link.dir ≢ (home_of dir).offset) → (dir ≢ h.dir) ⊎ (name ≢ link.name)
      by (inl same) = inr (λ e. fresh link is same (sym e))
      by (inr other) = inl (λ e. other (sym h.place ∙ ap (λ (x : NodeRev). (home_of x).offset) (sym e)))

  link_only : (at : ℕ) (link : LinkValue) → link_at new at ≡ Some link → (w : NodeRev) × Contains more w × ((home_of w).offset ≡ at) × IsLink look more w link
  link_only at link is = by (number_or at (home_of v).offset)
    where
      here : at ≡ (home_of v).offset → (o : Option LinkValue) → link_at links (home_of v).offset ≡ o → IsLink look more v (named_by (home_of dir).offset name o)
      here same None e = link_first
      here same (Some l) e =
          let w = all.only (home_of v).offset l e in
          let mine_is : w.0 ≡ v = one w.0 w.1 w.2 in
          link_again l e (subst (λ (x : NodeRev). IsLink look more x l) mine_is (link_more look done more kept w.0 l w.3))

      by : (at ≡ (home_of v).offset) ⊎ (at ≢ (home_of v).offset) → (w : NodeRev) × Contains more w × ((home_of w).offset ≡ at) × IsLink look more w link
      by (inl same) =
          let put_is = put_some links new (home_of v).offset (home_of dir).offset name put at same in
          let both : (let o : Option LinkValue = Some link in o) ≡ Some (named_by (home_of dir).offset name (link_at links (home_of v).offset)) = sym is ∙ put_is in
          let link_is : named_by (home_of dir).offset name (link_at links (home_of v).offset) ≡ link = cc in
          (v, mine, sym same, subst (λ (x : LinkValue). IsLink look more v x) link_is (here same (link_at links (home_of v).offset) refl))
      by (inr other) =
          let w = all.only at link (sym (put_other links new (home_of v).offset (home_of dir).offset name put at other) ∙ is) in
          (w.0, kept w.0 w.1, w.2, link_more look done more kept w.0 link w.3)

  pub linked_more : AreLinked look root new more
  linked_more = record { top = top_none; linked = link_there; only = link_only }

-- The walk at its end: all that the revision wrote was checked, so its tree is sound.
use Rattle.std.proofs.Common.{◌≡◌, ◌≤◌, ◌<◌, ◌⊎◌, ◌+◌, ◌++◌, ℕ, suc, Bool, true, false, nat_lt, List, [], ◌∷◌, refl, sym, ap, subst, ◌∙◌, inl, inr, arith}
use Rattle.std.specs.Prelude.{◌≢◌, Contains, Ok, Option, Some, None}
use Rattle.fsfs_base.specs.Paths.{PathName, Path}
use Rattle.fsfs_base.specs.declared.kind.Kind.TheVariants.{File, Dir}
use Rattle.fsfs_noderev.specs.declared.node_id.Part.{Part}
use Rattle.fsfs_noderev.specs.declared.node_rev.CopySource.{CopySource}
use Rattle.fsfs_noderev.specs.declared.node_rev.NodeRev.{NodeRev}
use Rattle.fsfs_revision.specs.Told.{RevisionBytes}
use Rattle.fsfs_revision.specs.Shows.Reading.{DirEntry, EntriesOf, OfEntry, ChildOf, RootOf, StandsAt, named}
use Rattle.fsfs_revision.specs.Shows.Chains.{own_rev}
use Rattle.fsfs_revision.specs.Shows.IdRules.{HasSuffix}
use Rattle.fsfs_revision.proofs.Earlier.{stands_of_id}
use Rattle.fsfs_revision.proofs.OneAnswer.{ok_same}
use Rattle.fsfs_revision.proofs.OneEntry.{entries_one}
use Rattle.fsfs_revision.proofs.Roots.{is_less, is_not_less}
use Rattle.fsfs_revision.proofs.Standing.{for_each}
use Rattle.fsfs_revision.proofs.TreeLaw.{root_home}
use Rattle.fsfs_dag.specs.TreeWalks.{Left}
use Rattle.fsfs_dag.specs.Views.{home_of}
use Rattle.fsfs_sound.specs.Revisions.{IsSoundTree, AreSoundBefore}
use Rattle.fsfs_sound.specs.Rules.{FitsDirectory, IsSoundEntry, IsSoundNode, IsSoundCopy, BeginsAlone, HasEntries, IsSoundRoot, FollowsLast, PartFrom}
use Rattle.fsfs_sound.specs.Rules as rules
use Rattle.fsfs_sound.specs.Written.{rev_of_id, IsNewAt, IsWritten, IsNewChild, Names}
use Rattle.fsfs_sound.proofs.Ids.{below_it}
use Rattle.fsfs_sound.proofs.Standing.{child_entry, of_entry_one, of_entry_rev}
use Rattle.fsfs_verify.specs.declared.above.Above.{Above}
use Rattle.fsfs_verify.specs.declared.links.Links.{Links}
use Rattle.fsfs_verify.specs.declared.nodes.Copied.{Copied}
use Rattle.fsfs_verify.specs.declared.parts.Parts.{Parts}
use Rattle.fsfs_verify.specs.AllWritten.{IsBefore, IsChildBefore, AreBrought, HoldsTree}
use Rattle.fsfs_verify.specs.Brought.{Brought}
use Rattle.fsfs_verify.specs.Copies as copying
use Rattle.fsfs_verify.specs.Copies.{IsPartOld}
use Rattle.fsfs_verify.specs.LinksUp.{LeadsUp}
use Rattle.fsfs_verify.specs.Roots.{FollowsOrFirst, IsRootBehind, IsLastRoot}
use Rattle.fsfs_verify.specs.Walks as walks
use Rattle.fsfs_verify.specs.Walks.{IsLeft, IsLinked, HasTakenPart, IsTaken, HasTaken, IsMet, IsWalk}
use Rattle.fsfs_verify.proofs.EarlierPreds.{source_earlier, id_ordered}
use Rattle.fsfs_verify.proofs.ListLemmas.{contains_nil}
use Rattle.fsfs_verify.proofs.Places.{stands_there}
use Rattle.fsfs_verify.proofs.Spots.{dir_new, root_is}

module _ (look : RevisionBytes) (r : ℕ) (root : NodeRev) (above : List Above) (links : Links) (copies : List Copied) (begun copied drawn : List Part) (done : List NodeRev)
    (w : IsWalk look r root [] above links copies begun copied drawn done) where
  -- each entry of what was checked was taken
  taken : (dir : NodeRev) → Contains done dir → dir.kind ≡ Dir → (name : PathName) (entry : DirEntry) → Names look dir name entry → IsTaken look r links done drawn dir name entry
  taken dir there kind name entry names = let h = w.entries dir there kind in by (h.2 name entry (ap (λ (es : List DirEntry). named name es) (ok_same h.0 names.0 (entries_one look dir (Ok h.0) (Ok names.0) h.1 names.1)) ∙ names.2))
    where
      by : IsTaken look r links done drawn dir name entry ⊎ IsLeft [] above dir entry → IsTaken look r links done drawn dir name entry
      by (inl done_so) = done_so
      by (inr left) = absurd (contains_nil (left.level, entry) left.waits)

  -- so a new child of one was checked, and fits it
  pub record IsTakenChild (dir : NodeRev) (name : PathName) (v : NodeRev) : Type 0 where
    pub there : Contains done v
    pub link : IsLinked links dir v name
    pub fits : v.copy_from ≡ None → FitsDirectory look dir name v × HasTakenPart look r drawn dir v

  pub child_taken : (dir v : NodeRev) (name : PathName) → Contains done dir → dir.kind ≡ Dir → ChildOf look dir name (Ok (Some v)) → own_rev v ≡ r → IsTakenChild dir name v
  child_taken dir v name there kind child own = let e = child_entry look dir v name child in by e.0 e.2 (taken dir there kind name e.0 e.1)
    where
      by : (entry : DirEntry) → OfEntry look entry (Ok v) → IsTaken look r links done drawn dir name entry → IsTakenChild dir name v
      by entry of (walks.Older before less was id kind) = absurd (let rev = of_entry_rev look entry v of in omega (arith, rev, less, own))
      by entry of (walks.Newer x read mine among link fits) =
          subst (λ (y : NodeRev). IsTakenChild dir name y) (of_entry_one look entry entry x v refl read of) (record { there = among; link = link; fits = fits })

  pub all_done : (p : Path) (v : NodeRev) → IsNewAt look r p v → Contains done v
  all_done p v new = for_each look r (λ q x. own_rev x ≡ r → Contains done x)
      (λ q name dir x at kind child there above own. (child_taken dir x name (above (dir_new look r q dir x name at child own)) kind child own).there)
      (λ x at own. subst (λ (y : NodeRev). Contains done y) (sym (root_is look r root w.top.0 x at)) w.top.1)
      p v new.stands new.own

  -- ---- where it stands

  pub leads_path : (p path : Path) (v : NodeRev) → IsNewAt look r p v → LeadsUp links (home_of root).offset (home_of v).offset path → p ≡ path
  leads_path p path v new up = stands_there look r root w.top.0 links done w.links all_done
      (λ q name dir x above there. (let b = below_it look r q name dir x above.stands there.stands in (child_taken dir x name (all_done q dir above) b.0 b.1 there.own).link)) p path v new up

  -- ---- what was written up to this revision was met

  met_at : (v : NodeRev) (s : ℕ) (p : Path) → s ≤ r → IsNewAt look s p v → IsMet look r done v
  met_at v s p le new = by (nat_lt s r) refl
    where
      by : (b : Bool) → nat_lt s r ≡ b → IsMet look r done v
      by true e = inl (record { rev = s; path = p; before = is_less s r e; new = new })
      by false e = let more = is_not_less s r e in let same : s ≡ r = omega (arith, le, more) in inr (all_done p v (subst (λ (n : ℕ). IsNewAt look n p v) same new))

  met_written : (v : NodeRev) → IsWritten look r v → IsMet look r done v
  met_written v x = met_at v x.rev x.path x.up_to x.new

  met_before : (v : NodeRev) → IsBefore look (r + 1) v → IsMet look r done v
  met_before v x = met_at v x.rev x.path (let less = x.before in omega (arith, less)) x.new

  before_met : (v : NodeRev) → IsMet look r done v → IsBefore look (r + 1) v
  before_met v (inl x) = record { rev = x.rev; path = x.path; before = (let less = x.before in omega (arith, less)); new = x.new }
  before_met v (inr there) = let c = w.checked v there in record { rev = r; path = c.stands.0; before = omega arith; new = c.stands.1 }

  child_part : (p : Path) (name : PathName) (dir v : NodeRev) → IsNewChild look r p name dir v → v.copy_from ≡ None → HasTakenPart look r drawn dir v
  child_part p name dir v new none =
      let b = below_it look r p name dir v new.above.stands new.there.stands in
      ((child_taken dir v name (all_done p dir new.above) b.0 b.1 new.there.own).fits none).1

  old_or_drawn : (dir v : NodeRev) → HasTakenPart look r drawn dir v → IsPartOld look dir v ⊎ Contains drawn v.id.copy
  old_or_drawn dir v (walks.Kept old) = inl old
  old_or_drawn dir v (walks.DrawnFor new first suffix there) = inr there

  draws_all : (dir v : NodeRev) → IsChildBefore look (r + 1) dir v → IsPartOld look dir v ⊎ Contains drawn v.id.copy
  draws_all dir v c = by (nat_lt c.rev r) refl
    where
      by : (b : Bool) → nat_lt c.rev r ≡ b → IsPartOld look dir v ⊎ Contains drawn v.id.copy
      by true e = w.met.draws dir v (record { rev = c.rev; path = c.path; name = c.name; before = is_less c.rev r e; new = c.new; no_copy = c.no_copy })
      by false e =
          let more = is_not_less c.rev r e in
          let less = c.before in
          let same : c.rev ≡ r = omega (arith, less, more) in
          old_or_drawn dir v (child_part c.path c.name dir v (subst (λ (n : ℕ). IsNewChild look n c.path c.name dir v) same c.new) c.no_copy)

  pub holds_all : (parts : Parts) → Brought r parts begun copied drawn → HoldsTree look (r + 1) r parts
  holds_all parts held = record {
    begun = begun;
    copied = copied;
    drawn = drawn;
    held = held;
    all = record {
      begins = λ v b none. w.met.begins v (met_before v b) none;
      begun = λ part there. (let x = w.met.begun_by part there in (x.0, before_met x.0 x.1, x.2, x.3));
      copies = λ v from b is. w.met.copies v from (met_before v b) is;
      copied = λ part there. (let x = w.met.copied_by part there in (x.0, x.1, before_met x.0 x.2, x.3, x.4));
      draws = draws_all;
      drawn = λ part there. (let x = w.met.drawn_by part there in (x.0, x.1, x.2, x.3, x.5));
      apart = w.met.apart;
    };
  }

  -- ---- the tree

  module _ (props : RevisionBytes) (sound : AreSoundBefore look props r) (once : (c : Copied) → Contains copies c → LeadsUp links (home_of root).offset c.place c.path) where
    begins_alone : (v : NodeRev) → Contains done v → v.predecessor ≡ None → BeginsAlone look r v
    begins_alone v there none = record {
      suffix = w.met.begins_now v there none;
      once = λ u written nil same. w.met.begins_once v u there (met_written u written) none nil same;
    }

    sound_copy : (p : Path) (v : NodeRev) → IsNewAt look r p v → (from : CopySource) → v.copy_from ≡ Some from → IsSoundCopy look r p v from
    sound_copy p v new from is =
        let there = all_done p v new in
        let c = (w.checked v there).copy from is in
        let x = w.copies.each v from there is in
        let path = leads_path p x.0.path v new (subst (λ (n : ℕ). LeadsUp links (home_of root).offset n x.0.path) x.2.0 (once x.0 x.1)) in
        let own = new.own in
        let less = source_earlier v from (id_ordered look v (stands_of_id look r p v new.stands)) is in
        record {
          there = path ∙ x.2.1;
          root = c.root;
          not_first = c.not_first;
          suffix = c.suffix;
          own = λ u other written was same. w.met.copies_once v u from other there (met_written u written) is was same;
          earlier = omega (arith, own, less);
          source = c.source;
        }

    sound_entry : (dir : NodeRev) (name : PathName) (entry : DirEntry) → IsTaken look r links done drawn dir name entry → IsSoundEntry look r dir name entry
    sound_entry dir name entry (walks.Older before less was id kind) = record { older = λ l. (before, was, id, kind); newer = λ e. absurd (omega (arith, less, e)) }
    sound_entry dir name entry (walks.Newer v of own there link fits) = record {
      older = λ l. absurd (let rev = of_entry_rev look entry v of in omega (arith, rev, own, l));
      newer = λ e. (v, of, λ none. (fits none).0);
    }

    sound_entries : (dir : NodeRev) → Contains done dir → dir.kind ≡ Dir → HasEntries look r dir
    sound_entries dir there kind = let h = w.entries dir there kind in (h.0, h.1, λ name entry is. sound_entry dir name entry (taken dir there kind name entry (h.0, h.1, is)))

    sound_node : (p : Path) (v : NodeRev) → IsNewAt look r p v → IsSoundNode look r p v
    sound_node p v new =
        let there = all_done p v new in
        let c = w.checked v there in
        record {
          pred = c.pred;
          begins = begins_alone v there;
          copy = sound_copy p v new;
          props = c.props;
          text = c.text;
          entries = sound_entries v there;
        }

    -- no copy has a part that was drawn
    no_copy_has : (v : NodeRev) → Contains drawn v.id.copy → (u : NodeRev) (from : CopySource) → IsWritten look r u → u.copy_from ≡ Some from → u.id.copy ≢ v.id.copy
    no_copy_has v there u from written is = λ same. w.met.apart v.id.copy (subst (λ (x : Part). Contains copied x) same (w.met.copies u from (met_written u written) is)) there

    old_part : (dir v : NodeRev) → IsPartOld look dir v → PartFrom look r dir v
    old_part dir v (copying.Directory e) = rules.Directory e
    old_part dir v (copying.Before u b e) = rules.Before u b e

    new_part : (dir v : NodeRev) → own_rev v ≡ r → HasTakenPart look r drawn dir v → PartFrom look r dir v
    new_part dir v own (walks.Kept old) = old_part dir v old
    new_part dir v own (walks.DrawnFor new first suffix there) = rules.Drawn (record { not_first = first; suffix = subst (λ (n : ℕ). HasSuffix n v.id.copy) (sym own) suffix; no_copy = no_copy_has v there })

    earlier_part : (s : ℕ) → s < r → (p : Path) (name : PathName) (dir v : NodeRev) → IsNewChild look s p name dir v → v.copy_from ≡ None → PartFrom look r dir v
    earlier_part s less p name dir v new none = by ((sound s less).tree.parts s p name dir v (omega arith) new none)
      where
        drawn_or : rules.IsDrawnPart look s v → IsPartOld look dir v ⊎ Contains drawn v.id.copy → PartFrom look r dir v
        drawn_or d (inl old) = old_part dir v old
        drawn_or d (inr there) = rules.Drawn (record { not_first = d.not_first; suffix = d.suffix; no_copy = no_copy_has v there })

        by : PartFrom look s dir v → PartFrom look r dir v
        by (rules.Directory e) = rules.Directory e
        by (rules.Before u b e) = rules.Before u b e
        by (rules.Drawn d) = drawn_or d (w.met.draws dir v (record { rev = s; path = p; name = name; before = less; new = new; no_copy = none }))

    all_parts : (s : ℕ) (p : Path) (name : PathName) (dir v : NodeRev) → s ≤ r → IsNewChild look s p name dir v → v.copy_from ≡ None → PartFrom look r dir v
    all_parts s p name dir v le new none = by (nat_lt s r) refl
      where
        by : (b : Bool) → nat_lt s r ≡ b → PartFrom look r dir v
        by true e = earlier_part s (is_less s r e) p name dir v new none
        by false e =
            let more = is_not_less s r e in
            let same : s ≡ r = omega (arith, le, more) in
            let now : IsNewChild look r p name dir v = subst (λ (n : ℕ). IsNewChild look n p name dir v) same new in
            new_part dir v now.there.own (child_part p name dir v now none)

    follows_last : (last : Option NodeRev) → FollowsOrFirst look root last → IsLastRoot look r last → FollowsLast look r root
    follows_last None first is = subst (λ (n : ℕ). FollowsLast look n root) (sym is) first
    follows_last (Some last) follows is = subst (λ (n : ℕ). FollowsLast look n root) (sym is.1) (last, is.2, follows)

    pub tree_sound : (last : Option NodeRev) → IsRootBehind look root last → IsLastRoot look r last → IsSoundTree look r
    tree_sound last behind is = record {
      root = (root, w.top.0, record { node = behind.node; copy = behind.copy; no_copy = behind.no_copy; follows = follows_last last behind.follows is });
      nodes = sound_node;
      parts = all_parts;
    }

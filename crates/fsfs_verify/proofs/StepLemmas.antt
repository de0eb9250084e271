-- The steps of the walk, as its functions take them.
use Rattle.std.proofs.Common.{◌≡◌, ◌≤◌, ◌<◌, ◌⊎◌, ◌+◌, ◌-◌, ◌++◌, ℕ, suc, Bool, true, false, List, [], ◌∷◌, length, take, refl, sym, ap, subst, ◌∙◌, inl, inr, arith, Vec, Global}
use Rattle.std.specs.Prelude.{◌≢◌, ◌&&◌, not, if◌then◌else◌, is_ok, is_err, Contains, Ok, Err, Option, Some, None, is_none, slice_get, option_copied, option_map, IfSome, OnOk, Result}
use Rattle.std.specs.Borrow.{Bor}
use Rattle.std.proofs.lemmas.Bool.{and_parts}
use Rattle.fsfs_base.specs.Paths.{PathName, Path}
use Rattle.fsfs_base.specs.declared.kind.Kind.TheVariants.{File}
use Rattle.fsfs_noderev.specs.declared.node_id.Part.{Part}
use Rattle.fsfs_noderev.specs.declared.node_rev.CopySource.{CopySource}
use Rattle.fsfs_noderev.specs.declared.node_rev.NodeRev.{NodeRev}
use Rattle.fsfs_revision.specs.Told.{RevisionBytes}
use Rattle.fsfs_revision.specs.Damage.Readings.{IfWrong}
use Rattle.fsfs_revision.specs.declared.wrong.ReadError.{ReadError}
use Rattle.fsfs_revision.specs.declared.wrong.ReadError.TheVariants as errors
use Rattle.fsfs_revision.specs.declared.wrong.Wrong.{Wrong}
use Rattle.fsfs_revision.specs.Nodes.{is_lasting_part, is_revision_place, is_revision_id, has_revision_pred, has_revision_rep, has_revision_root, is_of_revision, is_ordered}
use Rattle.fsfs_revision.specs.Shows.Reading.{DirEntry, OfEntry, TextOf, StandsAt, offset_of}
use Rattle.fsfs_revision.specs.Shows.Chains.{own_rev}
use Rattle.fsfs_revision.specs.Shows.IdRules.{IsOf}
use Rattle.fsfs_revision.proofs.Earlier.{stands_of_id}
use Rattle.fsfs_revision.proofs.Walks.{child_stands}
use Rattle.fsfs_dag.specs.declared.node.PlacedNode.{PlacedNode}
use Rattle.fsfs_dag.specs.declared.seen_bytes.SeenBytes.{SeenBytes}
use Rattle.fsfs_dag.specs.declared.tree_walk.TreeWalk.{TreeWalk}
use Rattle.fsfs_dag.specs.Seen.{IsSeen}
use Rattle.fsfs_dag.specs.TreeWalks.{Left, left, at_level, Enters}
use Rattle.fsfs_dag.specs.Views.{home_of}
use Rattle.fsfs_history.specs.KeptDirs.{by_name}
use Rattle.fsfs_sound.specs.Damaged.{IsDamaged}
use Rattle.fsfs_sound.specs.Revisions.{AreSoundBefore}
use Rattle.fsfs_sound.specs.Rules.{HasText, HasProps}
use Rattle.fsfs_sound.specs.Written.{rev_of_id, IsNewAt, Names, Precedes}
use Rattle.fsfs_sound.proofs.Standing.{entry_child, entry_le}
use Rattle.fsfs_verify.specs.declared.above.Above.{Above}
use Rattle.fsfs_verify.specs.declared.links.Links.{Links}
use Rattle.fsfs_verify.specs.declared.nodes.Copied.{Copied}
use Rattle.fsfs_verify.specs.declared.nodes.NewNodes.{NewNodes}
use Rattle.fsfs_verify.specs.declared.parts.Parts.{Parts}
use Rattle.fsfs_verify.specs.Brought.{Brought}
use Rattle.fsfs_verify.specs.Edges.{IsSameTarget, GoesOnFromEntry, IsWrongOlder, TakesEdge, IsWrongEdge}
use Rattle.fsfs_verify.specs.LinksUp.{LinkValue, link_at}
use Rattle.fsfs_verify.specs.Preds.{IsWrongPred}
use Rattle.fsfs_verify.specs.Steps.{IsLasting, IsSameWalk, IsSameStack, IsEntered, TakesCopy, NoCopy, ACopy, Begins, IsWrongEntering, TakesContents, IsWrongContents, TakesNode, IsWrongNode}
use Rattle.fsfs_verify.specs.Walks.{AreBelow, HasListOf, IsListBefore, HasEarlierPred, IsChecked, AreMet, IsWalk, HasWalk}
use Rattle.fsfs_verify.proofs.ChainLemmas.{pred_up_to}
use Rattle.fsfs_verify.proofs.Damages.{pred_damaged, entry_damaged}
use Rattle.fsfs_verify.proofs.EarlierPreds.{source_earlier, id_ordered, copy_earlier}
use Rattle.fsfs_verify.specs.Finds.{Finds}
use Rattle.fsfs_verify.proofs.Findings.{finds_as, finds_with}
use Rattle.fsfs_verify.proofs.Levels.{below_more, contents_below, depth_taken}
use Rattle.fsfs_verify.proofs.Linking.{IsPut}
use Rattle.fsfs_verify.proofs.ListLemmas.{contains_first, get_one}
use Rattle.fsfs_verify.proofs.Meeting.{met_edge}
use Rattle.fsfs_verify.proofs.Names.{older_damaged, was_there, went_on}
use Rattle.fsfs_verify.proofs.NodeDamages.{node_damaged}
use Rattle.fsfs_verify.proofs.PartDamages.{edge_damaged}
use Rattle.fsfs_verify.proofs.Stacks.{levels_below}
use Rattle.fsfs_verify.proofs.Walking as walking

-- what stands in a tree has no part of a transaction
lasting_id : (v : NodeRev) → is_of_revision v ≡ true → IsLasting v.id
lasting_id v h =
    let a = and_parts (is_revision_id v.id && has_revision_pred v.predecessor && has_revision_rep v.text && has_revision_rep v.props && has_revision_root v.copy_root) (not v.is_fresh_txn_root) h in
    let b = and_parts (is_revision_id v.id && has_revision_pred v.predecessor && has_revision_rep v.text && has_revision_rep v.props) (has_revision_root v.copy_root) a.0 in
    let c = and_parts (is_revision_id v.id && has_revision_pred v.predecessor && has_revision_rep v.text) (has_revision_rep v.props) b.0 in
    let d = and_parts (is_revision_id v.id && has_revision_pred v.predecessor) (has_revision_rep v.text) c.0 in
    let e = and_parts (is_revision_id v.id) (has_revision_pred v.predecessor) d.0 in
    let f = and_parts (is_lasting_part v.id.node && is_lasting_part v.id.copy) (is_revision_place v.id.place) e.0 in
    and_parts (is_lasting_part v.id.node) (is_lasting_part v.id.copy) f.0

pub stands_lasting : (look : RevisionBytes) (r : ℕ) (p : Path) (v : NodeRev) → StandsAt look r p v → IsLasting v.id
stands_lasting look r p v at =
    let of = stands_of_id look r p v at in
    subst (λ (x : NodeRev). IsLasting x.id) (sym of.2.0) (lasting_id of.0 of.1.2.0.1)

-- ---- a node-revision, by the steps of its check

pub contents_from : (look : RevisionBytes) (level : ℕ) (v : NodeRev) (pred : Option NodeRev) (old mid new : NewNodes) → IsSameStack old mid → TakesContents look level v pred mid new → TakesContents look level v pred old new
contents_from look level v pred old mid new same (inl h) =
    let e = h.1 in
    inl (
      h.0,
      record {
        entries = e.entries;
        entries_are = e.entries_are;
        left_is = e.left_is ∙ ap (λ (w : TreeWalk). at_level (suc level) e.entries ++ left w) same.walk;
        seen = e.seen ∙ ap (λ (w : TreeWalk). w.seen) same.walk;
        last = e.last;
        above = e.above ∙ ap (λ (a : Vec Above Global). a.items ++ e.last ∷ []) same.above;
        dir_is = e.dir_is;
        before = e.before;
      },
    )
contents_from look level v pred old mid new same (inr h) = let s = h.2 in inr (h.0, h.1, record { walk = s.walk ∙ same.walk; above = s.above ∙ same.above })

pub contents_seen : (look : RevisionBytes) (level : ℕ) (v : NodeRev) (pred : Option NodeRev) (old new : NewNodes) → TakesContents look level v pred old new → IsSeen look old.walk.seen → IsSeen look new.walk.seen
contents_seen look level v pred old new (inl h) seen = let e = h.1 in subst (λ (s : SeenBytes). IsSeen look s) (sym e.seen) seen
contents_seen look level v pred old new (inr h) seen = let s = h.2 in subst (λ (w : TreeWalk). IsSeen look w.seen) (sym s.walk) seen

-- a predecessor is of no later revision
pub pred_le : (look : RevisionBytes) (v : NodeRev) → is_ordered (offset_of v.id.place) v ≡ true → (o : Option PlacedNode) → Precedes look v (option_map (λ (u : PlacedNode). u.node) o) → IfSome o (λ (u : PlacedNode). (home_of u.node).rev ≤ (home_of v).rev)
pred_le look v ordered None precedes = tt
pred_le look v ordered (Some u) precedes = pred_up_to look v u.node ordered precedes.0

-- of one that is borrowed
pub precedes_as : (look : RevisionBytes) (v : NodeRev) (o : Option PlacedNode) (b : Option (Bor PlacedNode)) → option_copied b ≡ o → Precedes look v (option_map (λ (u : PlacedNode). u.node) o) → Precedes look v (option_map (λ (u : Bor PlacedNode). u.now.node) b)
precedes_as look v o None same precedes = subst (λ (x : Option PlacedNode). Precedes look v (option_map (λ (u : PlacedNode). u.node) x)) (sym same) precedes
precedes_as look v o (Some u) same precedes = subst (λ (x : Option PlacedNode). Precedes look v (option_map (λ (u : PlacedNode). u.node) x)) (sym same) precedes

pub enters_err : (look : RevisionBytes) (level : ℕ) (v : NodeRev) (pred : Option NodeRev) (old new : Left) (e : ReadError) → Enters look level v old new (Err e) → IfWrong (IsWrongEntering look v pred) e
enters_err look level v pred old new errors.OutOfMemory h = tt
enters_err look level v pred old new errors.DiskFault h = tt
enters_err look level v pred old new (errors.Wrong w) h = inr h.0

-- what holds of a call where it succeeds, since it holds anyway
pub on_ok : {T E : Type 0} (result : Result T E) (P : Type 0) → P → OnOk result P
on_ok (Ok x) P h = h
on_ok (Err e) P h = tt

-- what was pushed, where there was memory
pushed_last : {X E : Type 0} (result : Result (Unit {0}) E) (old new : List X) (x : X) → is_err result ≡ false → new ≡ (if is_ok result then old ++ x ∷ [] else old) → new ≡ old ++ x ∷ []
pushed_last (Ok u) old new x fine items = items
pushed_last (Err e) old new x fine items = absurd cc

pub entered : {E : Type 0} (look : RevisionBytes) (level : ℕ) (dir : NodeRev) (pred : Option NodeRev) (old new : NewNodes) (result : Result (Unit {0}) E) (last : Above) → is_err result ≡ false
    → new.above.items ≡ (if is_ok result then old.above.items ++ last ∷ [] else old.above.items) → last.dir.node ≡ dir → HasListOf look pred last.before
    → (depth : ℕ) → depth ≡ level → Enters look depth dir (left old.walk) (left new.walk) (Ok tt) → new.walk.seen ≡ old.walk.seen → IsEntered look level dir pred old new
entered look level dir pred old new result last fine items same before depth is e seen = record {
  entries = e.0;
  entries_are = e.1;
  left_is = subst (λ (n : ℕ). left new.walk ≡ at_level (suc n) e.0 ++ left old.walk) is e.2;
  seen = seen;
  last = last;
  above = pushed_last result old.above.items new.above.items last fine items;
  dir_is = same;
  before = before;
}

-- a file was read
pub file_found : (look : RevisionBytes) (level : ℕ) (v : NodeRev) (pred : Option NodeRev) (old new : NewNodes) (result : Result (Unit {0}) ReadError) → v.kind ≡ File → new.walk ≡ old.walk → new.above ≡ old.above
    → Finds (λ x. HasText look v) (λ w. TextOf look v (Err w)) result → Finds (λ x. TakesContents look level v pred old new) (IsWrongContents look v pred) result
file_found look level v pred old new result file walk above found =
    finds_as (λ x. HasText look v) (λ x. TakesContents look level v pred old new) (λ w. TextOf look v (Err w)) (IsWrongContents look v pred) (λ x h. inr (file, h, record { walk = walk; above = above })) (λ w h. inl (file, h)) result found

pub node_taken : (look : RevisionBytes) (rev level : ℕ) (begun copied drawn : List Part) (v : NodeRev) (pred : Option NodeRev) (old mid new : NewNodes) (parts : Parts) (begun_now copied_now : List Part)
    → Brought rev parts begun_now copied_now drawn → Begins rev v begun begun_now → TakesCopy look rev drawn v copied copied_now old.copies.items mid.copies.items → IsSameStack old mid → HasProps look v
    → TakesContents look level v pred mid new → new.copies ≡ mid.copies → TakesNode look rev level begun copied drawn v pred old new parts
node_taken look rev level begun copied drawn v pred old mid new parts begun_now copied_now brought begins copy same props contents kept = record {
  begun_now = begun_now;
  copied_now = copied_now;
  brought = brought;
  begins = begins;
  copy = subst (λ (c : Vec Copied Global). TakesCopy look rev drawn v copied copied_now old.copies.items c.items) (sym kept) copy;
  props = props;
  contents = contents_from look level v pred old mid new same contents;
}

-- ---- the next entry

-- the directories above it are the last ones
pub walk_below : (look : RevisionBytes) (r : ℕ) (root : NodeRev) (level : ℕ) (entry : DirEntry) (rest : Left) (old new : NewNodes) (parts : Parts) → HasWalk look r root ((level, entry) ∷ rest) old parts
    → new.rev ≡ old.rev → new.walk ≡ old.walk → new.above.items ≡ take level old.above.items → new.links ≡ old.links → new.copies ≡ old.copies → HasWalk look r root ((level, entry) ∷ rest) new parts
walk_below look r root level entry rest old new parts h rev walk above links copies =
    let below = h.below in
    let depth = depth_taken level entry rest old.above.items new.above.items below above in
    let w = walking.walk_shortened look r root level ((level, entry) ∷ rest) old.above.items old.links old.copies.items h.begun h.copied h.drawn h.done h.walk below.0 (levels_below level ((level, entry) ∷ rest) (below.0, omega arith, below.2)) in
    let x = subst (λ (a : List Above). IsWalk look r root ((level, entry) ∷ rest) a old.links old.copies.items h.begun h.copied h.drawn h.done) (sym above) w in
    let y = subst (λ (l : Links). IsWalk look r root ((level, entry) ∷ rest) new.above.items l old.copies.items h.begun h.copied h.drawn h.done) (sym links) x in
    record {
      begun = h.begun;
      copied = h.copied;
      drawn = h.drawn;
      done = h.done;
      rev = rev ∙ h.rev;
      seen = subst (λ (w : TreeWalk). IsSeen look w.seen) (sym walk) h.seen;
      below = (below.0, omega (arith, depth), below.2);
      brought = h.brought;
      walk = subst (λ (c : Vec Copied Global). IsWalk look r root ((level, entry) ∷ rest) new.above.items new.links c.items h.begun h.copied h.drawn h.done) (sym copies) y;
    }

-- the directory that names it
pub next_place : (look : RevisionBytes) (r : ℕ) (root : NodeRev) (level : ℕ) (entry : DirEntry) (rest : Left) (old : NewNodes) (parts : Parts) → HasWalk look r root ((level, entry) ∷ rest) old parts → (a : Above) × (slice_get old.above.items (level - 1) ≡ Some a)
next_place look r root level entry rest old parts h = let e = h.walk.stack.entries level entry (contains_first (level, entry) rest) in (e.place, e.place_is)

module _ (look : RevisionBytes) (r : ℕ) (root : NodeRev) (level : ℕ) (entry : DirEntry) (rest : Left) (old : NewNodes) (parts : Parts) (h : HasWalk look r root ((level, entry) ∷ rest) old parts)
    (a : Above) (a_is : slice_get old.above.items (level - 1) ≡ Some a) where
  here_is : (walking.here look r root level entry rest old.above.items old.links old.copies.items h.begun h.copied h.drawn h.done h.walk).place ≡ a
  here_is = let x = walking.here look r root level entry rest old.above.items old.links old.copies.items h.begun h.copied h.drawn h.done h.walk in get_one old.above.items (level - 1) x.place a x.place_is a_is

  -- what is left behind it
  below_rest : AreBelow (length old.above.items) rest
  below_rest = let below = h.below in below_more level (length old.above.items) rest below.1 below.2

  -- the directory that names it
  dir_checked : IsChecked look r a.dir.node
  dir_checked = h.walk.checked a.dir.node (h.walk.stack.dirs (level - 1) a a_is).0

  module _ (props : RevisionBytes) (sound : AreSoundBefore look props r) where
    -- ---- an older entry

    pub took_older : rev_of_id entry.id < r → IsSameTarget entry (by_name a.before entry.name) → HasWalk look r root rest old parts
    took_older older target = record {
      begun = h.begun;
      copied = h.copied;
      drawn = h.drawn;
      done = h.done;
      rev = h.rev;
      seen = h.seen;
      below = below_rest;
      brought = h.brought;
      walk = walking.walk_older look r root level entry rest old.above.items old.links old.copies.items h.begun h.copied h.drawn h.done h.walk older (subst (λ (x : Above). IsSameTarget entry (by_name x.before entry.name)) (sym here_is) target);
    }

    listed : Names look a.dir.node entry.name entry
    listed = subst (λ (x : Above). Names look x.dir.node entry.name entry) here_is (walking.here look r root level entry rest old.above.items old.links old.copies.items h.begun h.copied h.drawn h.done h.walk).listed

    pub up_to : rev_of_id entry.id ≤ r
    up_to =
        let le = entry_le look a.dir.node entry.name entry listed in
        let mine = dir_checked.stands.1.own in
        omega (arith, le, mine)

    list : IsListBefore look a.dir.node a.before
    list = (h.walk.stack.dirs (level - 1) a a_is).1

    dir_new : IsNewAt look r dir_checked.stands.0 a.dir.node
    dir_new = dir_checked.stands.1

    pub older_wrong : rev_of_id entry.id < r → (w : Wrong) → IsWrongOlder look entry (by_name a.before entry.name) w → IsDamaged look props r w
    older_wrong older w wrong =
        older_damaged look props r r (omega arith) dir_checked.stands.0 a.dir.node dir_new.stands a.is_dir entry.name listed.0 entry listed.1 listed.2 a.before list (subst (λ (n : ℕ). rev_of_id entry.id < n) (sym dir_new.own) older) w wrong

    -- what a check of it finds
    pub older_found : rev_of_id entry.id < r → (before : Option DirEntry) → before ≡ by_name a.before entry.name → (result : Result (Unit {0}) ReadError) → Finds (λ x. IsSameTarget entry before) (IsWrongOlder look entry before) result
        → Finds (λ x. HasWalk look r root rest old parts) (IsDamaged look props r) result
    older_found older before same result found =
        finds_as (λ x. IsSameTarget entry before) (λ x. HasWalk look r root rest old parts) (IsWrongOlder look entry before) (IsDamaged look props r)
        (λ x t. took_older older (subst (λ (o : Option DirEntry). IsSameTarget entry o) same t)) (λ w t. older_wrong older w (subst (λ (o : Option DirEntry). IsWrongOlder look entry o w) same t)) result found

    pub read_wrong : (w : Wrong) → OfEntry look entry (Err w) → IsDamaged look props r w
    read_wrong w read = entry_damaged look props r r (omega arith) dir_checked.stands.0 a.dir.node dir_new.stands a.is_dir entry.name listed.0 entry listed.1 listed.2 w read

    -- ---- a new one

    module _ (since : r ≤ rev_of_id entry.id) (v : NodeRev) (of : OfEntry look entry (Ok v)) where
      pub own : own_rev v ≡ r
      own = walking.own look r root level entry rest old.above.items old.links old.copies.items h.begun h.copied h.drawn h.done h.walk v of since

      new_at : IsNewAt look r (dir_checked.stands.0 ++ entry.name ∷ []) v
      new_at = record { stands = child_stands look r a.dir.node v dir_checked.stands.0 entry.name dir_new.stands a.is_dir (entry_child look a.dir.node v entry.name entry listed of); own = own }

      of_rev : IsOf look r v
      of_rev = (r, dir_checked.stands.0 ++ entry.name ∷ [], omega arith, new_at.stands)

      pub lasting : IsLasting v.id
      lasting = stands_lasting look r (dir_checked.stands.0 ++ entry.name ∷ []) v new_at.stands

      pub pred_wrong : (w : Wrong) → IsWrongPred look v w → IsDamaged look props r w
      pred_wrong w wrong = pred_damaged look props r v of_rev w wrong

      stands_of : (u : NodeRev) → Contains h.done u → (q : Path) × IsNewAt look r q u
      stands_of u there = (h.walk.checked u there).stands

      earlier : GoesOnFromEntry (by_name a.before entry.name) v → HasEarlierPred look r v
      earlier on =
          walking.went_earlier look r root level entry rest old.above.items old.links old.copies.items h.begun h.copied h.drawn h.done h.walk v of since props sound (subst (λ (x : Above). GoesOnFromEntry (by_name x.before entry.name) v) (sym here_is) on)

      pub edge_wrong : (pred : Option NodeRev) → Precedes look v pred → (w : Wrong) → IsWrongEdge look r h.copied a.dir.node v (by_name a.before entry.name) w → IsDamaged look props r w
      edge_wrong pred precedes w wrong =
          edge_damaged look props r h.begun h.copied h.drawn h.done h.walk.met stands_of (dir_checked.stands.0 ++ entry.name ∷ []) v new_at sound dir_checked.stands.0 entry.name a.dir.node dir_new refl wrong.0 pred (by_name a.before entry.name) precedes
          (λ u x next above child. went_on look (by_name a.before entry.name) a.dir.node v x next (was_there look a.dir.node a.before list entry.name u x above child)) earlier w wrong

      not_root : (home_of v).offset ≢ (home_of root).offset
      not_root = walking.no_root look r root level entry rest old.above.items old.links old.copies.items h.begun h.copied h.drawn h.done h.walk v of since

      -- by whether it is linked
      fresh : link_at old.links (home_of v).offset ≡ None → Contains h.done v → ⊥
      fresh none there = by (h.walk.links.linked v there)
        where
          by : (v ≡ root) ⊎ ((link : LinkValue) × (link_at old.links (home_of v).offset ≡ Some link)) → ⊥
          by (inl same) = not_root (ap (λ (x : NodeRev). (home_of x).offset) same)
          by (inr l) = (let e = sym none ∙ l.1 in cc)

      met_before : (link : LinkValue) → link_at old.links (home_of v).offset ≡ Some link → Contains h.done v
      met_before link is =
          let o = h.walk.links.only (home_of v).offset link is in
          subst (λ (x : NodeRev). Contains h.done x) (walking.same_spot look r root level entry rest old.above.items old.links old.copies.items h.begun h.copied h.drawn h.done h.walk v of since o.0 o.1 o.2) o.1

      module _ (now : List Part) (edge : TakesEdge look r h.copied a.dir.node v (by_name a.before entry.name) h.drawn now) where
        met_now : AreMet look r h.begun h.copied now h.done
        met_now = by edge
          where
            by : TakesEdge look r h.copied a.dir.node v (by_name a.before entry.name) h.drawn now → AreMet look r h.begun h.copied now h.done
            by (inl copy) = subst (λ (x : List Part). AreMet look r h.begun h.copied x h.done) (sym copy.1) h.walk.met
            by (inr e) = met_edge look r h.begun h.copied h.drawn h.done h.walk.met dir_checked.stands.0 entry.name a.dir.node v (record { above = dir_new; there = new_at }) (earlier e.1.goes_on) (by_name a.before entry.name) now edge

        -- where it was met, its predecessor is of an earlier tree
        by_copy : (none : v.copy_from ≡ None) → HasEarlierPred look r v
        by_copy none = by edge
          where
            by : TakesEdge look r h.copied a.dir.node v (by_name a.before entry.name) h.drawn now → HasEarlierPred look r v
            by (inl copy) = absurd (copy.0 none)
            by (inr e) = earlier e.1.goes_on

        copy_or : (copied_now : List Part) (before after : List Copied) → TakesCopy look r now v h.copied copied_now before after → HasEarlierPred look r v
        copy_or copied_now before after (NoCopy none same put) = by_copy none
        copy_or copied_now before after (ACopy from c is copy same put copied_is) =
            let less = source_earlier v from (id_ordered look v (stands_of_id look r (dir_checked.stands.0 ++ entry.name ∷ []) v new_at.stands)) is in
            let mine = own in
            copy_earlier look props r sound v from (omega (arith, less, mine)) copy.source

        edge_here : TakesEdge look r h.copied (walking.here look r root level entry rest old.above.items old.links old.copies.items h.begun h.copied h.drawn h.done h.walk).place.dir.node v
            (by_name (walking.here look r root level entry rest old.above.items old.links old.copies.items h.begun h.copied h.drawn h.done h.walk).place.before entry.name) h.drawn now
        edge_here = subst (λ (x : Above). TakesEdge look r h.copied x.dir.node v (by_name x.before entry.name) h.drawn now) (sym here_is) edge

        module _ (new : NewNodes) (rev_is : new.rev ≡ old.rev) (seen : IsSeen look new.walk.seen) (left_is : left new.walk ≡ rest) (above_is : new.above ≡ old.above) (copies_is : new.copies ≡ old.copies)
            (put : IsPut old.links new.links (home_of v).offset (home_of a.dir.node).offset entry.name) where
          put_here : IsPut old.links new.links (home_of v).offset (home_of (walking.here look r root level entry rest old.above.items old.links old.copies.items h.begun h.copied h.drawn h.done h.walk).place.dir.node).offset entry.name
          put_here = subst (λ (x : Above). IsPut old.links new.links (home_of v).offset (home_of x.dir.node).offset entry.name) (sym here_is) put

          below_now : AreBelow (length new.above.items) (left new.walk)
          below_now = subst (λ (l : Left). AreBelow (length new.above.items) l) (sym left_is) (subst (λ (a : Vec Above Global). AreBelow (length a.items) rest) (sym above_is) below_rest)

          -- it is named again
          pub took_again : (after : Parts) → Brought r after h.begun h.copied now → is_none (link_at old.links (home_of v).offset) ≡ false → HasWalk look r root (left new.walk) new after
          took_again after brought linked = by (link_at old.links (home_of v).offset) refl linked
            where
              there : Contains h.done v → HasWalk look r root (left new.walk) new after
              there met =
                  let w = walking.walk_again look r root level entry rest old.above.items old.links old.copies.items h.begun h.copied h.drawn h.done h.walk v of since now edge_here (h.walk.checked v met).earlier new.links put_here met in
                  let x = subst (λ (l : Left). IsWalk look r root l old.above.items new.links old.copies.items h.begun h.copied now h.done) (sym left_is) w in
                  let y = subst (λ (a : Vec Above Global). IsWalk look r root (left new.walk) a.items new.links old.copies.items h.begun h.copied now h.done) (sym above_is) x in
                  record {
                    begun = h.begun;
                    copied = h.copied;
                    drawn = now;
                    done = h.done;
                    rev = rev_is ∙ h.rev;
                    seen = seen;
                    below = below_now;
                    brought = brought;
                    walk = subst (λ (c : Vec Copied Global). IsWalk look r root (left new.walk) new.above.items new.links c.items h.begun h.copied now h.done) (sym copies_is) y;
                  }

              by : (o : Option LinkValue) → link_at old.links (home_of v).offset ≡ o → is_none o ≡ false → HasWalk look r root (left new.walk) new after
              by None is other = absurd cc
              by (Some link) is other = there (met_before link is)

          -- it is checked by itself
          module _ (first : is_none (link_at old.links (home_of v).offset) ≡ true) (pred : Option NodeRev) (precedes : Precedes look v pred) where
            none : link_at old.links (home_of v).offset ≡ None
            none = by (link_at old.links (home_of v).offset) first
              where
                by : (o : Option LinkValue) → is_none o ≡ true → o ≡ None
                by None one = refl
                by (Some link) one = absurd cc

            pub node_wrong : (w : Wrong) → IsWrongNode look r h.begun h.copied now v pred w → IsDamaged look props r w
            node_wrong w wrong = node_damaged look props r sound h.begun h.copied now h.done met_now stands_of (dir_checked.stands.0 ++ entry.name ∷ []) v new_at (fresh none) pred precedes w wrong

            pub took_first : (step : NewNodes) (after : Parts) → level ≡ length old.above.items → TakesNode look r level h.begun h.copied now v pred new step after → step.rev ≡ new.rev → step.links ≡ new.links → HasWalk look r root (left step.walk) step after
            took_first step after depth t rev same =
                let copy = subst (λ (c : Vec Copied Global). TakesCopy look r now v h.copied t.copied_now c.items step.copies.items) copies_is t.copy in
                let w = walking.walk_first look r root level entry rest old.above.items old.links old.copies.items h.begun h.copied h.drawn h.done h.walk v of since now edge_here (copy_or t.copied_now new.copies.items step.copies.items t.copy) new.links put_here none pred precedes new step t.begun_now t.copied_now
                left_is (ap (λ (a : Vec Above Global). a.items) above_is) depth t.begins copy t.props t.contents in
                record {
                  begun = t.begun_now;
                  copied = t.copied_now;
                  drawn = now;
                  done = h.done ++ v ∷ [];
                  rev = rev ∙ rev_is ∙ h.rev;
                  seen = contents_seen look level v pred new step t.contents seen;
                  below = contents_below look level v pred new step t.contents (depth ∙ ap (λ (a : Vec Above Global). length a.items) (sym above_is)) below_now;
                  brought = t.brought;
                  walk = subst (λ (l : Links). IsWalk look r root (left step.walk) step.above.items l step.copies.items t.begun_now t.copied_now now (h.done ++ v ∷ [])) (sym same) w;
                }

            pub node_found : (step : NewNodes) (after : Parts) → level ≡ length old.above.items → (result : Result (Unit {0}) ReadError) → OnOk result (IsSameWalk new step) → Finds (λ x. TakesNode look r level h.begun h.copied now v pred new step after) (IsWrongNode look r h.begun h.copied now v pred) result
                → Finds (λ x. HasWalk look r root (left step.walk) step after) (IsDamaged look props r) result
            node_found step after depth result same found =
                finds_with (IsSameWalk new step) (λ x. TakesNode look r level h.begun h.copied now v pred new step after) (λ x. HasWalk look r root (left step.walk) step after) (IsWrongNode look r h.begun h.copied now v pred) (IsDamaged look props r)
                (λ x kept t. took_first step after depth t kept.rev kept.links) node_wrong result same found

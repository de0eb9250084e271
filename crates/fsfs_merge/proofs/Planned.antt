-- The directories that a merge finds in a draft are of its folder, and written they leave the landing.
use Rattle.std.proofs.Common.{◌≡◌, ◌∙◌, ◌≤◌, ◌<◌, ℕ, true, false, ◌&&◌, not, List, [], ◌∷◌, ◌++◌, length, drop, append_assoc, refl, sym, ap, subst, inl, inr, arith}
use Rattle.std.specs.Prelude.{Option, Some, None, is_some, unwrap_or, if◌then◌else◌}
use Rattle.std.specs.List.{AllByRecursion}
use mathlib.Core.Bool.{false≢true}
use Rattle.std.proofs.lemmas.Bool.{and_from, and_parts, both_ways}
use Rattle.std.proofs.lemmas.Option.{same_Some}
use Rattle.fsfs_base.specs.Paths.{PathName, Path, covers}
use Rattle.fsfs_base.proofs.PathLemmas.{split_at}
use Rattle.fsfs_tree.specs.Nodes.{TreeFunction}
use Rattle.fsfs_model.specs.declared.flat.mark.Mark.{Mark}
use Rattle.fsfs_model.specs.Flat.Landing.{reached, NoClash, land}
use Rattle.fsfs_model.specs.Flat.Transactions.{IsTransaction}
use Rattle.fsfs_base.specs.declared.fields.txn_name.TxnName.{TxnName}
use Rattle.fsfs_revision.specs.Told.{RevisionBytes}
use Rattle.fsfs_noderev.specs.declared.changes.item.ChangeItem.{ChangeItem}
use Rattle.fsfs_noderev.specs.Ids.{PartValue, part_value}
use Rattle.fsfs_noderev.specs.declared.rep.Contents.TheVariants as contents
use Rattle.fsfs_noderev.specs.declared.node_id.NodeId.{NodeId}
use Rattle.fsfs_noderev.specs.declared.node_rev.NodeRev.{NodeRev}
use Rattle.fsfs_revision.specs.Shows.Reading.{DirEntry, named}
use Rattle.fsfs_revision.specs.Ancestry.Trees.{ShowTrees}
use Rattle.fsfs_draft.specs.Own.{OwnNode, Own}
use Rattle.fsfs_draft.specs.Drafts.{Kept, Folder, kept_of, IsBelow, AreItemsOf}
use Rattle.fsfs_draft.specs.Edits.{IsDraftAfter}
use Rattle.fsfs_draft.specs.Met.{draft_nodes, AreNodes}
use Rattle.fsfs_draft.specs.NodeDrafts as nodewise
use Rattle.fsfs_draft.specs.Outer.{is_anew, AreMade}
use Rattle.fsfs_draft.specs.OwnSides.{NodesAt, in_txn}
use Rattle.fsfs_draft.specs.Steps.{Files, kept_at}
use Rattle.fsfs_draft.specs.Tied.{IsListed}
use Rattle.fsfs_draft.specs.Whole.{IsDraftOf}
use Rattle.fsfs_draft.proofs.HangLaw as hanging
use Rattle.fsfs_draft.proofs.HangLaw.{some_same}
use Rattle.fsfs_draft.proofs.Lasting.{lasting}
use Rattle.fsfs_draft.proofs.Placing as placing
use Rattle.fsfs_draft.proofs.Placing.{Mine, Shared}
use Rattle.fsfs_draft.proofs.WholeLaw.{drafts_are_handed}
use Rattle.fsfs_merge.specs.declared.sight.Sight.{Sight}
use Rattle.fsfs_merge.specs.Walks.{merges, down, is_own}
use Rattle.fsfs_merge.specs.MergeLaws.{IsMerge, is_merged, landed_nodes}
use Rattle.fsfs_merge.proofs.MergedLaw.{own_here, stays_merged}
use Rattle.fsfs_merge.proofs.MergeLaw.{Through, Stopped, way, FromOwn, FromHead, HeadSame, OwnSame, agree_at, taken_at, base_some, own_of}
use Rattle.fsfs_merge.proofs.WalkLaw.{merges_all}
use Rattle.fsfs_merge.specs.LandedOwn.{relinked_own, landed_own, AreLists, IsLandedFolder}
use Rattle.fsfs_merge.proofs.LandedDraft.{Merged as MergedAt, merged}
use Rattle.fsfs_merge.proofs.LandedOwnLaw.{LinkedOwn, Link as IsLinked, Kept as IsStill, own_now, landed_is_a_draft}
use Rattle.fsfs_merge.proofs.LandedShownLaw.{landings_are_shown}
use Rattle.fsfs_merge.proofs.LandedWholeLaw.{merges_take_and_leave}
use Rattle.fsfs_merge.specs.declared.clash.merged.Link.{Link}
use Rattle.fsfs_merge.specs.declared.clash.merged.MergedDir.{MergedDir}
use Rattle.fsfs_merge.specs.Clash.Lists.{link_of}
use Rattle.fsfs_merge.specs.Clash.Plans.{OneIs, IsPlanned, ArePlanned}
use Rattle.fsfs_merge.specs.Clash.Sights.{sights}
use Rattle.fsfs_merge.proofs.Planning.{one_as}
use Rattle.fsfs_merge.proofs.ClashSightLaw.{sight_is}
use Rattle.fsfs_merge.specs.Relinked.{relinked_kept, IsOfKey, IsWritten, Merged, Same, AreRelinked, AreHere}
use Rattle.fsfs_merge.specs.Landings.{PlansLand}

-- ---- one of a list

all_one : {X : Type 0} (P : X → Type 0) (xs : List X) (x : X) → AllByRecursion P xs → OneIs (λ (y : X). y ≡ x) xs → P x
all_one P [] x h one = absurd one
all_one P (y ∷ xs) x h (inl e) = subst P e h.0
all_one P (y ∷ xs) x h (inr one) = all_one P xs x h.1 one

-- ---- the entries that a folder keeps

abbrev list_of_kept : Option Kept → List DirEntry
list_of_kept None = []
list_of_kept (Some k) = unwrap_or k.entries []

abbrev own_list : Files → Option OwnNode → List DirEntry
own_list files None = []
own_list files (Some v) = list_of_kept (kept_at files v.node.id)

-- what is written goes on from this link
abbrev with_link : Link → List DirEntry → Kept → Kept
with_link link entries k =
    record k { node = record k.node { predecessor = Some link.head; count = link.count; text = Some contents.Own; is_fresh_txn_root = false }; entries = Some entries }

module _ (look : RevisionBytes) (trees : ℕ → TreeFunction) (top base head : ℕ) (txn : TxnName) (f : Folder) (tree : TreeFunction) (marks : List Mark)
    (shows : ShowTrees look top trees) (less : base < head) (within : head ≤ top) (is : IsTransaction trees top base tree marks) (d : IsDraftOf look trees top base txn f tree marks)
    (clear : NoClash base (trees base) (trees head) tree marks) (nodes : ℕ → NodesAt) (are : AreNodes look top nodes) where
  le : base ≤ top
  le = omega (arith, less, within)

  order : base ≤ head
  order = omega (arith, less)

  abbrev own : Own
  own = d.shows.own

  abbrev met : NodesAt
  met = draft_nodes nodes own (nodes base)

  abbrev see : Path → Sight
  see = sights base (nodes base) (nodes head) met

  merge : IsMerge look top trees base head tree marks (nodes base) (nodes head) met see
  merge = merges_take_and_leave.takes look top trees base head tree marks nodes see txn f shows are is order within d (λ p. sight_is base (nodes base p) (nodes head p) (met p))

  hangs : nodewise.IsDraft look top base met
  hangs = (drafts_are_handed.handed look trees top base nodes txn f tree marks shows.each are le d).hangs

  met_own : (p : Path) (v : OwnNode) → own p ≡ Some v → met p ≡ Some v.node
  met_own p v here = hanging.met_own look top base trees nodes shows.each are le txn f own d.shows.is_draft p v here

  -- ---- what is merged is the transaction's own

  record IsMine (p : Path) : Type 0 where
    at : MergedAt look top trees base head tree marks (nodes base) (nodes head) met see merge clear hangs p
    v : OwnNode
    here : own p ≡ Some v
    same : v.node ≡ at.v

  mine : (p : Path) → is_merged see p ≡ true → IsMine p
  mine p m =
      let both = and_parts (reached (down see) p) (merges (see p)) m in
      let at = merged look top trees base head tree marks (nodes base) (nodes head) met see merge clear hangs p both.0 both.1 in
      let w = hanging.mine_at look top base trees nodes shows.each are le txn f own d.shows.is_draft p at.v at.own_is at.next.own in
      record { at = at; v = w.0; here = w.1; same = w.2 }

  -- a directory that is planned for the path
  planned_link : (p : Path) (dir : MergedDir) → IsPlanned see (nodes head) met p dir → (w : IsMine p) → dir.link ≡ link_of w.at.y w.v.node.id
  planned_link p dir pl w =
      let y : pl.y ≡ w.at.y = some_same (nodes head p) pl.y w.at.y pl.head_is w.at.head_is in
      let v : pl.v ≡ w.v.node = some_same (met p) pl.v w.at.v pl.own_is w.at.own_is ∙ sym w.same in
      pl.link ∙ (λ i. link_of (y i) ((v i).id))

  planned_id : (p : Path) (dir : MergedDir) → IsPlanned see (nodes head) met p dir → (w : IsMine p) → dir.link.own ≡ w.v.node.id
  planned_id p dir pl w = ap (λ (l : Link). l.own) (planned_link p dir pl w)

  here_at : (p : Path) (dir : MergedDir) → IsPlanned see (nodes head) met p dir → (k : Kept) × (kept_at f.nodes dir.link.own ≡ Some k)
  here_at p dir pl =
      let w = mine p pl.merged in
      (kept_of w.v, ap (λ (id : NodeId). kept_at f.nodes id) (planned_id p dir pl w) ∙ d.shows.is_draft.kept p w.v w.here)

  pub all_here : (dirs : List MergedDir) → AllByRecursion (λ (dir : MergedDir). (p : Path) × IsPlanned see (nodes head) met p dir) dirs → AreHere f dirs
  all_here [] h = tt
  all_here (dir ∷ dirs) h = (here_at h.0.0 dir h.0.1, all_here dirs h.1)

  -- files of these parts stand at one path
  one_path : (p q : Path) (v w : OwnNode) → own p ≡ Some v → own q ≡ Some w → part_value v.node.id.node ≡ part_value w.node.id.node → part_value v.node.id.copy ≡ part_value w.node.id.copy → p ≡ q
  one_path p q v w here there n c =
      let same : kept_of v ≡ kept_of w = same_Some (kept_of v) (kept_of w) (sym (d.shows.is_draft.kept p v here) ∙ (λ i. f.nodes (n i) (c i)) ∙ d.shows.is_draft.kept q w there) in
      sym (d.shows.is_draft.paths p v here) ∙ ap (λ (k : Kept). k.node.created_path) same ∙ d.shows.is_draft.paths q w there

  -- ---- below what is not the transaction's nothing is

  none_below : (s q : Path) → covers s q ≡ true → own s ≡ None → own q ≡ None
  none_below s q c none = elim (hanging.placed look top base trees nodes shows.each are le txn f own d.shows.is_draft s) [
    | Mine v here ↦ absurd (let g : Some v ≡ None = sym here ∙ none in cc)
    | Shared a x rest v at here gone ↦ (
        ap own (sym (split_at s q c)) ∙ ap (λ (t : Path). own (t ++ drop (length s) q)) at ∙ ap own (append_assoc a (x ∷ rest) (drop (length s) q))
        ∙ placing.own_shared look top base trees nodes shows.each are le txn f own d.shows.is_draft a v here x (rest ++ drop (length s) q) gone)
  ]

  none_met : (s : Path) → is_some (met s) ≡ false → own s ≡ None
  none_met s lacks = by (own s) refl
    where
      by : (o : Option OwnNode) → own s ≡ o → own s ≡ None
      by None e = e
      by (Some v) e = absurd (both_ways (is_some (met s)) lacks (ap is_some (met_own s v e)))

  -- what the base has there
  base_at : (s : Path) → is_some (trees base s) ≡ true → (x : NodeRev) × (nodes base s ≡ Some x)
  base_at s some = by (nodes base s) refl (base_some look top trees base head tree marks (nodes base) (nodes head) met see merge 0 clear s ∙ some)
    where
      by : (o : Option NodeRev) → nodes base s ≡ o → is_some o ≡ true → (x : NodeRev) × (nodes base s ≡ Some x)
      by None e g = absurd (false≢true g)
      by (Some x) e g = (x, e)

  none_same : (s : Path) → is_some (trees base s) ≡ true → (see s).own_same ≡ true → own s ≡ None
  none_same s some same = by (own s) refl
    where
      x : (x : NodeRev) × (nodes base s ≡ Some x)
      x = base_at s some

      w : (c : NodeRev) × (met s ≡ Some c) × (x.0.id ≡ c.id)
      w = ((merge.sights s).own_same x.0 x.1).0 same

      by : (o : Option OwnNode) → own s ≡ o → own s ≡ None
      by None e = e
      by (Some v) e = absurd (both_ways (in_txn x.0.id.place) (lasting look base s x.0 ((merge.base_nodes.each s x.0).0 x.1)).place
          (ap (λ (id : NodeId). in_txn id.place) w.2 ∙ ap (λ (z : NodeRev). in_txn z.id.place) (some_same (met s) w.0 v.node w.1 (met_own s v e)) ∙ hanging.is_mine look top base trees nodes shows.each are le txn f own d.shows.is_draft s v e))

  -- ---- the directories are written

  module _ (dirs : List MergedDir) (plan : ArePlanned see (nodes head) met dirs) (after : Folder) (so : AreRelinked f after dirs) where
    abbrev lists : Path → List DirEntry
    lists p = own_list after.nodes (own p)

    abbrev left : Own
    left = landed_own see (nodes head) lists own

    -- a directory of an own node-revision's parts is planned for its path
    planned_at : (p : Path) (v : OwnNode) → own p ≡ Some v → (dir : MergedDir) → OneIs (λ (x : MergedDir). x ≡ dir) dirs → IsOfKey (part_value v.node.id.node) (part_value v.node.id.copy) dir → IsPlanned see (nodes head) met p dir
    planned_at p v here dir one key =
        let w = all_one (λ (x : MergedDir). (q : Path) × IsPlanned see (nodes head) met q x) dirs dir plan.each one in
        let m = mine w.0 w.1.merged in
        let e = planned_id w.0 dir w.1 m in
        let there : w.0 ≡ p = one_path w.0 p m.v v m.here here (ap (λ (id : NodeId). part_value id.node) (sym e) ∙ key.0) (ap (λ (id : NodeId). part_value id.copy) (sym e) ∙ key.1) in
        subst (λ (q : Path). IsPlanned see (nodes head) met q dir) there w.1

    -- what was written at a path through which the merge goes
    record Wrote (p : Path) : Type 0 where
      own_is : IsMine p
      dir : MergedDir
      link : dir.link ≡ link_of own_is.at.y own_is.v.node.id
      entries : List DirEntry
      listed : (name : PathName) → IsListed (named name entries) (landed_nodes see (nodes head) met (p ++ name ∷ []))
      now : kept_at after.nodes own_is.v.node.id ≡ Some (relinked_kept dir entries (kept_of own_is.v))

    wrote : (p : Path) → is_merged see p ≡ true → Wrote p
    wrote p m = by (so.each (part_value w.v.node.id.node) (part_value w.v.node.id.copy))
      where
        w : IsMine p
        w = mine p m

        key : (dir : MergedDir) → IsPlanned see (nodes head) met p dir → IsOfKey (part_value w.v.node.id.node) (part_value w.v.node.id.copy) dir
        key dir pl = (ap (λ (id : NodeId). part_value id.node) (planned_id p dir pl w), ap (λ (id : NodeId). part_value id.copy) (planned_id p dir pl w))

        by : IsWritten f after dirs (part_value w.v.node.id.node) (part_value w.v.node.id.copy) → Wrote p
        by (Merged dir entries k one of list was now) =
            let pl = planned_at p w.v w.here dir one of in
            let same : k ≡ kept_of w.v = same_Some k (kept_of w.v) (sym was ∙ d.shows.is_draft.kept p w.v w.here) in
            record {
              own_is = w;
              dir = dir;
              link = planned_link p dir pl w;
              entries = entries;
              listed = λ name. subst (λ (o : Option DirEntry). IsListed o (landed_nodes see (nodes head) met (p ++ name ∷ []))) (sym (list name)) (pl.listed name);
              now = now ∙ ap (λ (z : Kept). Some (relinked_kept dir entries z)) same;
            }
        by (Same apart e) = absurd (apart (one_as (IsPlanned see (nodes head) met p) (IsOfKey (part_value w.v.node.id.node) (part_value w.v.node.id.copy)) dirs key (plan.all p m)))

    list_is : (p : Path) (w : Wrote p) → lists p ≡ w.entries
    list_is p w = ap (own_list after.nodes) w.own_is.here ∙ ap list_of_kept w.now

    listing : AreLists see (nodes head) met lists
    listing p name m =
        let w = wrote p m in
        subst (λ (entries : List DirEntry). IsListed (named name entries) (landed_nodes see (nodes head) met (p ++ name ∷ []))) (sym (list_is p w)) (w.listed name)

    -- ---- the folder

    linked_kept : (p : Path) (w : Wrote p) (y : NodeRev) (old : OwnNode) → nodes head p ≡ Some y → own p ≡ Some old → kept_at after.nodes old.node.id ≡ Some (kept_of (LinkedOwn old y (lists p)))
    linked_kept p w y old head_is here =
        let v_same : w.own_is.v ≡ old = some_same (own p) w.own_is.v old w.own_is.here here in
        let y_same : w.own_is.at.y ≡ y = some_same (nodes head p) w.own_is.at.y y w.own_is.at.head_is head_is in
        let link : w.dir.link ≡ link_of y old.node.id = w.link ∙ (λ i. link_of (y_same i) ((v_same i).node.id)) in
        ap (λ (z : OwnNode). kept_at after.nodes z.node.id) (sym v_same) ∙ w.now ∙ (λ i. Some (with_link (link i) (sym (list_is p w) i) (kept_of (v_same i))))

    kept_now : (p : Path) (v : OwnNode) → left p ≡ Some v → kept_at after.nodes v.node.id ≡ Some (kept_of v)
    kept_now p v e = elim (own_now look top trees base head tree marks nodes see txn f own lists are merge clear d.shows.is_draft d.files d.once p v e) [
      | IsLinked m l ↦ subst (λ (z : OwnNode). kept_at after.nodes z.node.id ≡ Some (kept_of z)) (sym l.same) (linked_kept p (wrote p m) l.at.y l.old l.at.head_is l.here)
      | IsStill here o still ↦ elim (so.each (part_value v.node.id.node) (part_value v.node.id.copy)) [
        | Merged dir entries k one key list was now ↦ absurd (both_ways (is_merged see p) still (planned_at p v here dir one key).merged)
        | Same apart same ↦ same ∙ d.shows.is_draft.kept p v here
      ]
    ]

    drawn_now : (node copy : PartValue) (k : Kept) → after.nodes node copy ≡ Some k → IsBelow after.next_node node × IsBelow after.next_copy copy
    drawn_now node copy k e =
        let old : IsBelow f.next_node node × IsBelow f.next_copy copy = elim (so.each node copy) [
          | Merged dir entries before one key list was now ↦ d.shows.is_draft.drawn node copy before was
          | Same apart same ↦ d.shows.is_draft.drawn node copy k (sym same ∙ e)
        ] in
        (subst (λ (n : ℕ). IsBelow n node) (sym so.next_node) old.0, subst (λ (n : ℕ). IsBelow n copy) (sym so.next_copy) old.1)

    folder : IsLandedFolder f after left
    folder = record { kept = kept_now; drawn = drawn_now; proto = so.proto }

    -- ---- the paths that were made

    kept_anew : (q : Path) → is_own see q ≡ true → is_merged see q ≡ false → is_anew (own q) ≡ is_anew (left q)
    kept_anew q o m = sym (λ i. is_anew (if o i then relinked_own (m i) (nodes head q) (lists q) (own q) else None))

    left_anew : (q : Path) → is_own see q ≡ false → own q ≡ None → is_anew (own q) ≡ is_anew (left q)
    left_anew q o none = ap is_anew none ∙ sym (λ i. is_anew (if o i then relinked_own (is_merged see q) (nodes head q) (lists q) (own q) else None))

    linked_anew : (q : Path) → reached (down see) q ≡ true → merges (see q) ≡ true → is_anew (own q) ≡ is_anew (left q)
    linked_anew q r m =
        let through : is_merged see q ≡ true = and_from _ _ r m in
        let w = mine q through in
        let k = merges_all (see q).in_base (see q).head_same (see q).own_same (see q).goes_on m in
        let o : is_own see q ≡ true = own_here see q r ∙ stays_merged (see q) k.0 k.1 k.2 k.3 in
        let back : w.v.node.predecessor ≡ Some w.at.x.id = ap (λ (z : NodeRev). z.predecessor) w.same ∙ w.at.next.predecessor in
        ap is_anew w.here ∙ ap (λ (before : Option NodeId). not (not (is_some w.v.node.copy_from) && is_some before)) back
        ∙ sym (λ i. is_anew (if o i then relinked_own (through i) (w.at.head_is i) (lists q) (w.here i) else None))

    anew_same : (q : Path) → is_anew (own q) ≡ is_anew (left q)
    anew_same q = elim (way see q) [
      | Through r m ↦ linked_anew q r m
      | Stopped s c r m nm ↦ elim (taken_at look top trees base head tree marks (nodes base) (nodes head) met see merge 0 clear s r m) [
        | FromOwn none lacks st ↦ kept_anew q (own_of look top trees base head tree marks (nodes base) (nodes head) met see merge 0 clear q s c r m true st) nm
        | FromHead none lacks st ↦ left_anew q (own_of look top trees base head tree marks (nodes base) (nodes head) met see merge 0 clear q s c r m false st) (none_below s q c (none_met s (merge.paths.there s ∙ lacks)))
        | HeadSame some quiet st ↦ kept_anew q (own_of look top trees base head tree marks (nodes base) (nodes head) met see merge 0 clear q s c r m true st) nm
        | OwnSame some quiet st ↦ (
            let agree = agree_at look top trees base head tree marks (nodes base) (nodes head) met see merge 0 clear s r in
            left_anew q (own_of look top trees base head tree marks (nodes base) (nodes head) met see merge 0 clear q s c r m false st) (none_below s q c (none_same s some (agree.own_same some ∙ ap not quiet))))
      ]
    ]

    -- ---- the landing

    pub landed : AreMade marks own → (k : ℕ) → IsDraftAfter look trees top head txn after (land (trees base) (trees head) tree marks k) marks
    landed made k =
        let draft = landed_is_a_draft.draft look top trees base head tree marks nodes see txn f after own lists are merge less clear d.shows.is_draft d.files d.once d.says listing folder in
        let sides = landed_is_a_draft.files look top trees base head tree marks nodes see txn f own lists are merge clear d.shows.is_draft d.files d.once in
        let marked = landed_is_a_draft.marks look top trees base head tree marks nodes see txn f after own lists are merge less clear d.shows.is_draft d.files d.once d.says listing folder in
        let shown = landings_are_shown look top trees base head k tree marks nodes see txn f after own lists are merge less clear d.shows.is_draft d.files d.once d.says d.sources d.shows.each listing folder in (
          record {
            shows = record { own = left; is_draft = draft; each = shown.each; items = subst (λ (items : List ChangeItem). AreItemsOf items marks) (sym so.items) d.shows.items };
            files = sides.0;
            once = sides.1;
            says = marked;
            sources = shown.sources;
          },
          λ q. made q ∙ anew_same q,
        )

pub plans_land : PlansLand
plans_land = record {
  here = λ look trees top base head txn f tree marks dirs shows less within is d clear lead. all_here look trees top base head txn f tree marks shows less within is d clear lead.0 lead.1 dirs lead.2.each;
  lands = λ look trees top base head txn f after tree marks dirs shows less within is d clear lead so. landed look trees top base head txn f tree marks shows less within is d.0 clear lead.0 lead.1 dirs lead.2 after so d.1;
}

-- A transaction that has begun stands for the tree of its base.
use Rattle.std.proofs.Common.{◌≡◌, ◌<◌, ◌≤◌, ◌∷◌, ℕ, Bool, true, false, List, [], length, inl, refl, sym, ap, subst, ◌∙◌, arith}
use Rattle.std.specs.Prelude.{Option, Some, None, not, ◌&&◌, is_some, if◌then◌else◌}
use Rattle.fsfs_base.specs.Files.{Files}
use Rattle.fsfs_base.specs.Paths.{Path}
use Rattle.fsfs_tree.specs.Nodes.{TreeFunction}
use Rattle.fsfs_tree.specs.Dated.{last_of}
use Rattle.fsfs_tree.specs.Revisions.{tree_of}
use Rattle.fsfs_model.specs.Flat.Transactions.{Begun}
use Rattle.fsfs_base.specs.declared.fields.txn_name.TxnName.{TxnName}
use Rattle.fsfs_begin.specs.Begun.{IsBegunOn}
use Rattle.fsfs_begin.proofs.RevisionLemmas.{begun_same, stands_for}
use Rattle.fsfs_revision.specs.Told.{RevisionBytes}
use Rattle.fsfs_noderev.specs.Ids.{part_value}
use Rattle.fsfs_noderev.specs.declared.node_rev.NodeRev.{NodeRev}
use Rattle.fsfs_draft.specs.Own.{OwnNode}
use Rattle.fsfs_draft.specs.Drafts.{Folder, kept_of}
use Rattle.fsfs_draft.specs.Outer.{AreMade, is_anew}
use Rattle.fsfs_draft.specs.Steps.{same_value}
use Rattle.fsfs_draft.specs.Whole.{IsDraftOf}
use Rattle.fsfs_draft.specs.Views.{new_kept}
use Rattle.fsfs_txn_nodes.specs.Memory.Views.{begun_folder}
use Rattle.fsfs_machine.specs.declared.machine.Recorded.{Recorded}
use Rattle.fsfs_machine.specs.Kept.{IsIn}
use Rattle.fsfs_machine.specs.Machine.{revisions}
use Rattle.fsfs_machine.proofs.Growing.{revisions_length}
use Rattle.fsfs_base.specs.declared.places.place.DiskPlace.TheVariants as place
use Rattle.fsfs_machine.specs.declared.machine.Went.{Went}
use Rattle.fsfs_machine.specs.Machine.{is_fine_in}
use Rattle.fsfs_turn.specs.Bytes.{bytes_of, AllShow, BytesShow}
use Rattle.fsfs_turn.specs.Views.{View, Begins}
use Rattle.fsfs_turn.specs.Learning.{SpentPurged}
use Rattle.fsfs_begin.specs.Begun.{HasBegun, HasBegunAmong}
use Rattle.fsfs_begin.specs.Steps.{Moved}
use Rattle.fsfs_begin.proofs.Moving.{told_moved, spent_steps}
use Rattle.fsfs_txn.specs.Standing.{Stands}
use Rattle.fsfs_repo.specs.Txns.Begun.{BeginsTxn, BeginsTxnAmong}
use Rattle.fsfs_commit.specs.Transaction.SeenLemmas.{bytes_same, shown_trees}
use Rattle.fsfs_repo.proofs.Shown.{seen_shows, part_shows}

-- the one own node-revision goes on from the base's: the transaction made nothing
made_none : (look : RevisionBytes) (trees : ℕ → TreeFunction) (top base : ℕ) (txn : TxnName) (root : NodeRev) (held : Option Files) (proto : List ℕ) (tree : TreeFunction) → root.copy_from ≡ None → is_some root.predecessor ≡ true
    → (d : IsDraftOf look trees top base txn (begun_folder root held proto) tree []) → AreMade [] d.shows.own
made_none look trees top base txn root held proto tree no_copy goes_on d = λ q. by q (d.shows.own q) refl
  where
    node_is : (v : OwnNode) (b : Bool) → (if b then Some (new_kept root) else None) ≡ Some (kept_of v) → v.node ≡ root
    node_is v true e = let same : new_kept root ≡ kept_of v = cc in sym (ap (λ k. k.node) same)
    node_is v false e = absurd cc

    not_anew : (v : OwnNode) → v.node ≡ root → is_anew (Some v) ≡ false
    not_anew v same =
        ap (λ (n : NodeRev). not (not (is_some n.copy_from) && is_some n.predecessor)) same ∙ ap (λ o. not (not (is_some o) && is_some root.predecessor)) no_copy ∙ ap (λ b. not (true && b)) goes_on

    by : (q : Path) (o : Option OwnNode) → d.shows.own q ≡ o → false ≡ is_anew (d.shows.own q)
    by q None e = sym (ap is_anew e)
    by q (Some v) e =
        let at = d.shows.is_draft.kept q v e in
        sym (ap is_anew e ∙ not_anew v (node_is v (same_value (part_value root.id.node) (part_value v.node.id.node) && same_value (part_value root.id.copy) (part_value v.node.id.copy)) at))

-- what is left of it in its folder, over revisions that the bytes beside them show
module _ (name : TxnName) (root : NodeRev) (held : Option Files) (h : List Recorded) (less : name.base < length h) (on : IsBegunOn (bytes_of h) name root) (shows : BytesShow h) where
  begun_stands : (proto : List ℕ) → Stands (bytes_of h) (tree_of (revisions h)) (last_of (revisions h)) name.base name (begun_folder root held proto) (tree_of (revisions h) name.base) []
  begun_stands proto = record { edits = Begun name.base le; shows = (draft, made_none _ _ _ _ name root held proto _ on.2.no_copy (ap (λ o. is_some o) on.2.on.predecessor) draft) }
    where
      some : 0 < length h
      some = omega (arith, less)

      le : name.base ≤ last_of (revisions h)
      le = omega (arith, less, revisions_length h)

      draft : IsDraftOf (bytes_of h) (tree_of (revisions h)) (last_of (revisions h)) name.base name (begun_folder root held proto) (tree_of (revisions h) name.base) []
      draft = let shown = shown_trees h some shows in stands_for (bytes_of h) name root held on (last_of (revisions h)) (tree_of (revisions h)) proto shown.each shown.ids le

  stands_as : (proto : List ℕ) (settled : Folder) (base : ℕ) → name.base ≡ base → settled ≡ begun_folder root held proto → Stands (bytes_of h) (tree_of (revisions h)) (last_of (revisions h)) base name settled (tree_of (revisions h) base) []
  stands_as proto settled base named folder =
      subst (λ f. Stands (bytes_of h) (tree_of (revisions h)) (last_of (revisions h)) base name f (tree_of (revisions h) base) []) (sym folder)
      (subst (λ b. Stands (bytes_of h) (tree_of (revisions h)) (last_of (revisions h)) b name (begun_folder root held proto) (tree_of (revisions h) b) []) named (begun_stands proto))

begins_txn : (name : TxnName) (root : NodeRev) (held : Option Files) (v u : View) → HasBegun name root held v u → (proto : List ℕ) (settled : Folder) (base : ℕ) → AllShow u.seen → name.base ≡ base → settled ≡ begun_folder root held proto → BeginsTxn name base settled v u
begins_txn name root held v u h proto settled base all named folder = record {
  is = h.is;
  least = h.least;
  all = h.all;
  based = subst (λ b. b < length u.seen) named h.base;
  above = h.above;
  stands = stands_as name root held u.seen h.base h.root (seen_shows u.seen all (omega (arith, h.base))) proto settled base named folder;
  grows = h.grows;
  steps = h.steps;
}

-- the same, of a name that is this one
pub begins_as : (name other : TxnName) (root : NodeRev) (held : Option Files) (v u : View) → HasBegun name root held v u → (proto : List ℕ) (settled : Folder) (base : ℕ) → AllShow u.seen → name.base ≡ base → other ≡ name → settled ≡ begun_folder root held proto → BeginsTxn other base settled v u
begins_as name other root held v u h proto settled base all named same folder = subst (λ (n : TxnName). BeginsTxn n base settled v u) (sym same) (begins_txn name root held v u h proto settled base all named folder)

module _ (name : TxnName) (root : NodeRev) (held : Option Files) (v u : View) (h : HasBegunAmong name root held v u) where
  -- its root goes on from the base's, as the bytes of a first part have it
  on_part : (part : List Recorded) → Begins u.seen part → name.base < length part → IsBegunOn (bytes_of part) name root
  on_part part begins less = begun_same name root (bytes_of u.seen) (bytes_of part) (sym (bytes_same part u.seen name.base begins less)) h.root

  begins_among : (proto : List ℕ) (settled : Folder) (base : ℕ) → AllShow u.seen → name.base ≡ base → settled ≡ begun_folder root held proto → BeginsTxnAmong name base settled v u
  begins_among proto settled base all named folder = record {
    is = h.is;
    least = h.least;
    all = h.all;
    based = subst (λ b. b < length u.seen) named h.base;
    above = h.above;
    stands = λ part begins less.
        let there : name.base < length part = subst (λ b. b < length part) (sym named) less in
        stands_as name root held part there (on_part part begins there) (part_shows u.seen part all begins (omega (arith, less))) proto settled base named folder;
    doubtless = h.doubtless;
    grows = h.grows;
    steps = h.steps;
  }

  pub among_as : (other : TxnName) (proto : List ℕ) (settled : Folder) (base : ℕ) → AllShow u.seen → name.base ≡ base → other ≡ name → settled ≡ begun_folder root held proto → BeginsTxnAmong other base settled v u
  among_as other proto settled base all named same folder = subst (λ (n : TxnName). BeginsTxnAmong n base settled v u) (sym same) (begins_among proto settled base all named folder)

  pub begun_moved : Moved v u
  begun_moved = record {
    number = ap {A = View} (λ z. z.number) h.is;
    layout = ap {A = View} (λ z. z.layout) h.is;
    since = ap {A = View} (λ z. z.since) h.is;
    left = ap {A = View} (λ z. z.left) h.is;
    opened = ap {A = View} (λ z. z.opened) h.is;
    mine = ap {A = View} (λ z. z.pass.mine) h.is;
    least = h.least;
    grows = h.grows;
    more = name.number.number ∷ [];
    given = ap {A = View} (λ z. z.given) h.is;
    still = λ stuck. ap {A = View} (λ z. is_some z.pass.stuck) h.is ∙ stuck;
    full = λ full. ap {A = View} (λ z. z.full) h.is ∙ full;
    outside = ap {A = View} (λ z. z.section) h.is;
    doubtless = h.doubtless;
    steps = h.steps;
  }

  -- so its bench may be dropped again
  pub begun_given : (u.section ≡ None) × IsIn name.number.number u.given
  begun_given = (ap {A = View} (λ z. z.section) h.is, subst (λ xs. IsIn name.number.number xs) (sym (ap {A = View} (λ z. z.given) h.is)) (inl refl))

-- its label was dropped
pub spent_moved : (name : ℕ) (went : Went) (v u : View) → v.section ≡ None → SpentPurged name went v u → Moved v u
spent_moved name went v u none d = told_moved place.Remove (is_fine_in went) v u refl none d.is d.grows (spent_steps name went v u d)

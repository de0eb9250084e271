-- What leads somewhere leads there still, whatever becomes the transaction's own.
use Rattle.std.proofs.Common.{◌≡◌, Bool, true, false, cond, List, [], ◌∷◌, refl, sym, ap, subst, ◌∙◌}
use Rattle.std.specs.Prelude.{Option, Some, None, Ok}
use Rattle.fsfs_base.specs.Paths.{PathName, Path, same_name}
use Rattle.fsfs_base.specs.declared.kind.Kind.{Kind}
use Rattle.fsfs_base.specs.declared.kind.Kind.TheVariants.{File, Dir}
use Rattle.fsfs_base.proofs.PathLemmas.{same_name-is}
use Rattle.fsfs_base.proofs.ResultLemmas.{not_none}
use Rattle.fsfs_base.specs.declared.fields.txn_name.TxnName.{TxnName}
use Rattle.fsfs_revision.specs.Told.{RevisionBytes}
use Rattle.fsfs_noderev.specs.Ids.{part_value}
use Rattle.fsfs_noderev.specs.declared.node_id.Part.{Part}
use Rattle.fsfs_noderev.specs.declared.node_id.Place.TheVariants as places
use Rattle.fsfs_noderev.specs.declared.node_id.NodeId.{NodeId}
use Rattle.fsfs_noderev.specs.declared.node_rev.NodeRev.{NodeRev}
use Rattle.fsfs_revision.specs.Nodes.{is_revision_id}
use Rattle.fsfs_revision.proofs.OneAnswer.{ok_same, and_then_one}
use Rattle.fsfs_revision.specs.Damage.Readings.{HasOneAnswer}
use Rattle.fsfs_revision.specs.Shows.Reading.{DirEntry, named, OfId}
use Rattle.fsfs_revision.proofs.OneWalk.{of_id_one}
use Rattle.fsfs_revision.proofs.OneEntry.{entries_one}
use Rattle.fsfs_revision.proofs.DamageLemmas.{no_both}
use Rattle.fsfs_draft.specs.Drafts.{Kept, Folder}
use Rattle.fsfs_draft.specs.Steps.{Files, same_key, with_kept, kept_at}
use Rattle.fsfs_draft.proofs.Files.{same_files, put_files, other_files}
use Rattle.fsfs_draft.proofs.Changing.{no_txn_place}
use Rattle.fsfs_draft.specs.Entries.{OfKind, OfIdEntries, OfPredecessor, OfListed, OfKept}
use Rattle.fsfs_draft.specs.Views.{new_kept, opened_kept}
use Rattle.fsfs_draft.proofs.OwnEntries.{lasting_parts}
use Rattle.fsfs_edit.specs.DagEdits.Mutable.{IsPartOf, Directory, Same, Drawn, IsChildChanged}
use Rattle.fsfs_txn.specs.declared.opened.known.Known.{Known}
use Rattle.fsfs_txn.specs.Opened.Leading.{IsAmong, IsSourceKnown, IsEndKnown, OwnEnd, LastingEnd, HasEntries, OfOwn, OfLasting, LeadsDown}

-- ---- ids

-- the id of what is the transaction's own is of no revision
pub own_id : (id : NodeId) (txn : TxnName) → id.place ≡ places.In txn → is_revision_id id ≡ false
own_id id txn is = by (is_revision_id id) refl
  where
    by : (b : Bool) → is_revision_id id ≡ b → is_revision_id id ≡ false
    by true h = absurd (no_txn_place id.place txn is (lasting_parts id h).place)
    by false h = h

pub same_some : {A : Type 0} (x y : A) → (let o : Option A = Some x in o) ≡ Some y → x ≡ y
same_some x y e = cc

-- ---- one answer

of_kind_one : (look : RevisionBytes) (kind : Kind) (u : NodeRev) → HasOneAnswer (OfKind look kind u)
of_kind_one look File u a b g h = g ∙ sym h
of_kind_one look Dir u a b g h = entries_one look u a b g h

pub id_entries_one : (look : RevisionBytes) (id : NodeId) → HasOneAnswer (OfIdEntries look id)
id_entries_one look id = and_then_one (OfId look id) (λ u. OfKind look u.kind u) (of_id_one look id) (λ u. of_kind_one look u.kind u)

listed_one : (look : RevisionBytes) (o : Option (List DirEntry)) (b : Option NodeId) → HasOneAnswer (OfListed look o b)
listed_one look (Some entries) b x y g h = g ∙ sym h
listed_one look None None x y g h = g ∙ sym h
listed_one look None (Some id) x y g h = id_entries_one look id x y g h

pub kept_one : (look : RevisionBytes) (k : Kept) (a b : List DirEntry) → OfKept look k (Ok a) → OfKept look k (Ok b) → a ≡ b
kept_one look k a b g h = ok_same a b (listed_one look k.entries k.node.predecessor (Ok a) (Ok b) g h)

-- what has an entry is a directory
kind_of_entries : (look : RevisionBytes) (kind : Kind) (u : NodeRev) (entries : List DirEntry) (name : PathName) (e : DirEntry) → OfKind look kind u (Ok entries) → named name entries ≡ Some e → kind ≡ Dir
kind_of_entries look File u entries name e of is = not_none (named name entries) e is (ap (λ (l : List DirEntry). named name l) (ok_same entries [] of))
kind_of_entries look Dir u entries name e of is = refl

pub id_dir : (look : RevisionBytes) (u : NodeRev) (entries : List DirEntry) (name : PathName) (e : DirEntry) → OfId look u.id (Ok u) → OfIdEntries look u.id (Ok entries) → named name entries ≡ Some e → u.kind ≡ Dir
id_dir look u entries name e read of is =
    let same : of.0 ≡ u = ok_same of.0 u (of_id_one look u.id (Ok of.0) (Ok u) of.1 read) in
    sym (ap (λ (v : NodeRev). v.kind) same) ∙ kind_of_entries look of.0.kind of.0 entries name e of.2 is

-- ---- what leads down

-- what is known of a node-revision of a revision
pub known_there : (look : RevisionBytes) (files : Files) (known : List Known) (path : Path) (id : NodeId) → is_revision_id id ≡ true → LeadsDown look files known path id → IsAmong id known
known_there look files known [] id lasts h = by h
  where
    by : IsEndKnown files known id → IsAmong id known
    by (OwnEnd k own here source) = no_both (is_revision_id id) lasts own
    by (LastingEnd l among) = among
known_there look files known (name ∷ rest) id lasts h = by h.2
  where
    by : HasEntries look files known id h.0 → IsAmong id known
    by (OfOwn k own here dir source of) = no_both (is_revision_id id) lasts own
    by (OfLasting l among of) = among

-- what is known of an own one at the end
pub known_source : (files : Files) (known : List Known) (id : NodeId) (k : Kept) → is_revision_id id ≡ false → kept_at files id ≡ Some k → IsEndKnown files known id → IsSourceKnown known k.node.predecessor
known_source files known id k own here (OwnEnd j o there source) = subst (λ (x : Kept). IsSourceKnown known x.node.predecessor) (same_some j k (sym there ∙ here)) source
known_source files known id k own here (LastingEnd l among) = no_both (is_revision_id id) l own

-- ---- files of the same entries and predecessors

pub record IsLike (before after : Kept) : Type 0 where
  pub kind : after.node.kind ≡ before.node.kind
  pub predecessor : after.node.predecessor ≡ before.node.predecessor
  pub entries : after.entries ≡ before.entries

kept_like : (look : RevisionBytes) (a b : Kept) (entries : List DirEntry) → IsLike a b → OfKept look a (Ok entries) → OfKept look b (Ok entries)
kept_like look a b entries like of =
    subst (λ (o : Option (List DirEntry)). OfListed look o b.node.predecessor (Ok entries)) (sym like.entries) (subst (λ (o : Option NodeId). OfListed look a.entries o (Ok entries)) (sym like.predecessor) of)

module _ (look : RevisionBytes) (files after : Files) (like : (id : NodeId) (k : Kept) → kept_at files id ≡ Some k → (x : Kept) × (kept_at after id ≡ Some x) × IsLike k x) (known : List Known) where
  like_end : (id : NodeId) → IsEndKnown files known id → IsEndKnown after known id
  like_end id (OwnEnd k own here source) = let x = like id k here in OwnEnd x.0 own x.1 (subst (λ (o : Option NodeId). IsSourceKnown known o) (sym x.2.predecessor) source)
  like_end id (LastingEnd l among) = LastingEnd l among

  like_entries : (id : NodeId) (entries : List DirEntry) → HasEntries look files known id entries → HasEntries look after known id entries
  like_entries id entries (OfOwn k own here dir source of) =
      let x = like id k here in
      OfOwn x.0 own x.1 (x.2.kind ∙ dir) (λ none. subst (λ (o : Option NodeId). IsSourceKnown known o) (sym x.2.predecessor) (source (sym x.2.entries ∙ none))) (kept_like look k x.0 entries x.2 of)
  like_entries id entries (OfLasting l among of) = OfLasting l among of

  pub like_leads : (path : Path) (id : NodeId) → LeadsDown look files known path id → LeadsDown look after known path id
  like_leads [] id h = like_end id h
  like_leads (name ∷ rest) id h = (h.0, h.1, like_entries id h.0 h.2, h.3, like_leads rest h.1.id h.4)

-- one node-revision set
module _ (look : RevisionBytes) (files : Files) (at : NodeId) (k x : Kept) (here : kept_at files at ≡ Some k) (like : IsLike k x) where
  set_like : (id : NodeId) (j : Kept) → kept_at files id ≡ Some j → (y : Kept) × (kept_at (with_kept at x files) id ≡ Some y) × IsLike j y
  set_like id j there = by (same_key at id) refl
    where
      by : (b : Bool) → same_key at id ≡ b → (y : Kept) × (kept_at (with_kept at x files) id ≡ Some y) × IsLike j y
      by true h = (
        x,
        sym (same_files (with_kept at x files) at id h) ∙ put_files at x files,
        subst (λ (z : Kept). IsLike z x) (same_some k j (sym here ∙ same_files files at id h ∙ there)) like,
      )
      by false h = (j, other_files at id x files (λ t. no_both (same_key at id) t h) ∙ there, record { kind = refl; predecessor = refl; entries = refl })

  pub set_leads : (known : List Known) (path : Path) (id : NodeId) → LeadsDown look files known path id → LeadsDown look (with_kept at x files) known path id
  set_leads known = like_leads look files (with_kept at x files) set_like known

-- ---- a child that becomes the transaction's own

module _ (look : RevisionBytes) (before after : Folder) (txn : TxnName) (dir : NodeId) (entries : List DirEntry) (name : PathName) (kind : Kind) (u : NodeRev) (id : NodeId) (c : IsChildChanged before after txn dir entries name kind u id)
    (dir_is : c.k.node.kind ≡ Dir) (of : OfKept look c.k (Ok entries)) (e : DirEntry) (found : named name entries ≡ Some e) (named_is : e.id ≡ u.id) (lasts : is_revision_id u.id ≡ true) (read : OfId look u.id (Ok u)) where
  between_nodes : (between : Folder) (copy : Part) → IsPartOf before between dir.copy u.id.copy copy → between.nodes ≡ before.nodes
  between_nodes between copy (Directory is same) = ap (λ (g : Folder). g.nodes) same
  between_nodes between copy (Same is same) = ap (λ (g : Folder). g.nodes) same
  between_nodes between copy (Drawn is same) = ap (λ (g : Folder). g.nodes) same

  same_nodes : c.between.nodes ≡ before.nodes
  same_nodes = between_nodes c.between c.child.id.copy c.part.of

  abbrev DirKept : Kept
  DirKept = opened_kept c.k c.new

  abbrev WithChild : Files
  WithChild = with_kept c.child.id (new_kept c.child) before.nodes

  abbrev After : Files
  After = with_kept dir DirKept WithChild

  after_nodes : after.nodes ≡ After
  after_nodes = ap (λ (g : Folder). g.nodes) c.after_is ∙ (λ i. with_kept dir DirKept (with_kept c.child.id (new_kept c.child) (same_nodes i)))

  fresh : kept_at before.nodes c.child.id ≡ None
  fresh = (λ i. (sym same_nodes i) (part_value (c.next.node i)) (part_value c.child.id.copy)) ∙ c.part.free

  child_own : is_revision_id c.child.id ≡ false
  child_own = own_id c.child.id txn c.next.place

  at_dir : kept_at After dir ≡ Some DirKept
  at_dir = put_files dir DirKept WithChild

  at_child : kept_at After c.child.id ≡ Some (new_kept c.child)
  at_child = other_files dir c.child.id DirKept WithChild (λ h. not_none (kept_at before.nodes c.child.id) c.k (sym (same_files before.nodes dir c.child.id h) ∙ c.here) fresh) ∙ put_files c.child.id (new_kept c.child) before.nodes

  at_other : (i : NodeId) (j : Kept) → kept_at before.nodes i ≡ Some j → same_key dir i ≡ false → kept_at After i ≡ Some j
  at_other i j there h =
      other_files dir i DirKept WithChild (λ t. no_both (same_key dir i) t h)
      ∙ other_files c.child.id i (new_kept c.child) before.nodes (λ t. not_none (kept_at before.nodes i) j there (sym (same_files before.nodes c.child.id i t) ∙ fresh)) ∙ there

  module _ (known : List Known) where
    -- what led down from the node-revision leads down from the one that goes on from it
    child_end : IsEndKnown After known u.id → IsEndKnown After known c.child.id
    child_end (OwnEnd j own there source) = no_both (is_revision_id u.id) lasts own
    child_end (LastingEnd l among) = OwnEnd (new_kept c.child) child_own at_child (subst (λ (o : Option NodeId). IsSourceKnown known o) (sym c.next.predecessor) among)

    child_entries : (y : PathName) (es : List DirEntry) (x : DirEntry) → named y es ≡ Some x → HasEntries look After known u.id es → HasEntries look After known c.child.id es
    child_entries y es x is (OfOwn j own there d source o) = no_both (is_revision_id u.id) lasts own
    child_entries y es x is (OfLasting l among o) =
        OfOwn (new_kept c.child) child_own at_child (c.next.kind ∙ id_dir look u es y x read o is) (λ none. subst (λ (p : Option NodeId). IsSourceKnown known p) (sym c.next.predecessor) among)
        (subst (λ (p : Option NodeId). OfPredecessor look p (Ok es)) (sym c.next.predecessor) o)

    pub child_leads : (rest : Path) → LeadsDown look After known rest u.id → LeadsDown look After known rest c.child.id
    child_leads [] h = child_end h
    child_leads (y ∷ rest) h = (h.0, h.1, child_entries y h.0 h.1 h.3 h.2, h.3, h.4)

    still_end : (i : NodeId) → IsEndKnown before.nodes known i → IsEndKnown After known i
    still_end i (LastingEnd l among) = LastingEnd l among
    still_end i (OwnEnd j own there source) = by (same_key dir i) refl
      where
        by : (b : Bool) → same_key dir i ≡ b → IsEndKnown After known i
        by true h =
            OwnEnd DirKept own (sym (same_files After dir i h) ∙ at_dir)
            (subst (λ (z : Kept). IsSourceKnown known z.node.predecessor) (same_some j c.k (sym there ∙ sym (same_files before.nodes dir i h) ∙ c.here)) source)
        by false h = OwnEnd j own (at_other i j there h) source

    -- a step down still leads on
    still_step : (y : PathName) (rest : Path) (i : NodeId) (es : List DirEntry) (x : DirEntry) → HasEntries look before.nodes known i es → named y es ≡ Some x → LeadsDown look After known rest x.id → LeadsDown look After known (y ∷ rest) i
    still_step y rest i es x (OfLasting l among o) is more = (es, x, OfLasting l among o, is, more)
    still_step y rest i es x (OfOwn j own there d source o) is more = by (same_key dir i) refl
      where
        by_name : (b : Bool) → same_name name y ≡ b → same_key dir i ≡ true → es ≡ entries → LeadsDown look After known (y ∷ rest) i
        by_name true n h same = (
          c.new,
          record { name = name; kind = kind; id = c.child.id },
          OfOwn DirKept own (sym (same_files After dir i h) ∙ at_dir) dir_is (λ none. let z = none in absurd cc) refl,
          c.replaced y ∙ ap (λ (b : Bool). cond b (Some (record { name = name; kind = kind; id = c.child.id })) (named y entries)) n,
          child_leads rest (subst (λ (z : NodeId). LeadsDown look After known rest z)
              (ap (λ (z : DirEntry). z.id) (same_some x e (sym is ∙ ap (λ (l : List DirEntry). named y l) same ∙ ap (λ (t : PathName). named t entries) (sym (same_name-is name y n)) ∙ found)) ∙ named_is) more),
        )
        by_name false n h same = (
          c.new,
          x,
          OfOwn DirKept own (sym (same_files After dir i h) ∙ at_dir) dir_is (λ none. let z = none in absurd cc) refl,
          c.replaced y ∙ ap (λ (b : Bool). cond b (Some (record { name = name; kind = kind; id = c.child.id })) (named y entries)) n ∙ ap (λ (l : List DirEntry). named y l) (sym same) ∙ is,
          more,
        )

        by : (b : Bool) → same_key dir i ≡ b → LeadsDown look After known (y ∷ rest) i
        by true h =
            let k : j ≡ c.k = same_some j c.k (sym there ∙ sym (same_files before.nodes dir i h) ∙ c.here) in
            by_name (same_name name y) refl h (kept_one look c.k es entries (subst (λ (z : Kept). OfKept look z (Ok es)) k o) of)
        by false h = (es, x, OfOwn j own (at_other i j there h) d source o, is, more)

    still : (path : Path) (i : NodeId) → LeadsDown look before.nodes known path i → LeadsDown look After known path i
    still [] i h = still_end i h
    still (y ∷ rest) i h = still_step y rest i h.0 h.1 h.2 h.3 (still rest h.1.id h.4)

    pub still_leads : (path : Path) (i : NodeId) → LeadsDown look before.nodes known path i → LeadsDown look after.nodes known path i
    still_leads path i h = subst (λ (files : Files). LeadsDown look files known path i) (sym after_nodes) (still path i h)

    -- and on from the child
    pub child_still : (rest : Path) → LeadsDown look before.nodes known rest u.id → LeadsDown look after.nodes known rest id
    child_still rest h = subst (λ (files : Files). LeadsDown look files known rest id) (sym after_nodes) (subst (λ (z : NodeId). LeadsDown look After known rest z) c.id_is (child_leads rest (still rest u.id h)))

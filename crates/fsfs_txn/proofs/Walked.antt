-- The walk down a draft's tree on which all is read that is wanted later: nothing that it reads is wrong, and each step leads on.
use Rattle.std.proofs.Common.{◌≡◌, ◌≤◌, ℕ, Bool, true, false, List, [], ◌∷◌, ◌++◌, refl, sym, ap, subst, ◌∙◌, inl, inr, append_assoc}
use Rattle.std.specs.Prelude.{Option, Some, None, is_some, Ok, Err, option_map}
use Rattle.fsfs_base.specs.Paths.{PathName, Path}
use Rattle.fsfs_base.specs.declared.kind.Kind.{Kind}
use Rattle.fsfs_base.specs.declared.kind.Kind.TheVariants.{File, Dir}
use Rattle.fsfs_tree.specs.Nodes.{Node, TreeFunction}
use Rattle.fsfs_model.specs.Flat.Edits.{is_dir_node}
use Rattle.fsfs_base.specs.declared.fields.txn_name.TxnName.{TxnName}
use Rattle.fsfs_revision.specs.Told.{RevisionBytes}
use Rattle.fsfs_noderev.specs.declared.node_id.NodeId.{NodeId}
use Rattle.fsfs_noderev.specs.declared.node_rev.NodeRev.{NodeRev}
use Rattle.fsfs_revision.specs.Nodes.{is_revision_id}
use Rattle.fsfs_revision.specs.declared.wrong.Wrong.{Wrong}
use Rattle.fsfs_revision.proofs.OneAnswer.{ok_same}
use Rattle.fsfs_revision.specs.Shows.Reading.{DirEntry, named, EntriesOf, OfId, OfNamed, ChildOf, PropsOf, StandsAt, offset_of}
use Rattle.fsfs_revision.proofs.OneWalk.{of_id_one, props_one}
use Rattle.fsfs_revision.proofs.DamageLemmas.{no_both}
use Rattle.fsfs_draft.specs.Own.{OwnNode, Own, draft_tree, shared_under, shared_at}
use Rattle.fsfs_draft.specs.Rules.{above_at, stands_under, stands_at, at_top}
use Rattle.fsfs_draft.specs.Drafts.{Kept, Folder, kept_of, IsDraft, ShowTrees}
use Rattle.fsfs_draft.specs.Agreeing.{Agrees}
use Rattle.fsfs_draft.specs.Steps.{kept_at}
use Rattle.fsfs_draft.proofs.Here.{goes_from, rule_here, agrees_below}
use Rattle.fsfs_draft.proofs.Changing.{of_id_lasting}
use Rattle.fsfs_draft.specs.Entries.{OfKind, OfIdEntries, OfKept, IsWithin}
use Rattle.fsfs_draft.specs.Walks.{IsLastingAt}
use Rattle.fsfs_draft.proofs.OwnEntries.{lasting_id, own_dir, entries_here, has_named, own_entry, lasting_entry, lasting_child, kept_same}
use Rattle.fsfs_draft.proofs.Walking.{lasting_kind, below_none, below_some}
use Rattle.fsfs_txn.specs.declared.opened.known.Known.{Known}
use Rattle.fsfs_txn.specs.Opened.Knowing.{IsWhole}
use Rattle.fsfs_txn.specs.Opened.Leading.{IsAmong, IsSourceKnown, IsEndKnown, OwnEnd, LastingEnd, HasEntries, OfOwn, OfLasting, LeadsDown}
use Rattle.fsfs_txn.specs.Opened.Stepping.{IsIdAt, OwnAt, LastingAt, IsDirKnown, OwnDir, LastingDir, BecomesKnown}
use Rattle.fsfs_txn.proofs.Following.{own_id}
use Rattle.fsfs_edit.proofs.Bare.{dir_kind}

-- the id of what is read is the one that it is read by
pub read_id : (look : RevisionBytes) (id : NodeId) (u : NodeRev) → OfId look id (Ok u) → u.id ≡ id
read_id look id u of = ap (λ (v : NodeRev). v.id) of.2.0 ∙ of.2.1

-- nothing of what stands is wrong
module _ (look : RevisionBytes) (top : ℕ) (Stands : Path → NodeRev → Type 0) (tree : TreeFunction) (agrees : Agrees look top Stands tree) (q : Path) (u : NodeRev) (at : Stands q u) where
  read : OfId look u.id (Ok u)
  read = agrees.read q u at

  entries_right : (w : Wrong) (v : NodeRev) → v ≡ u → (kind : Kind) → v.kind ≡ kind → OfKind look kind v (Err w) → ⊥
  entries_right w v same File is of = cc
  entries_right w v same Dir is of = agrees.never q u w at (sym (ap (λ (x : NodeRev). x.kind) same) ∙ is) (subst (λ (x : NodeRev). EntriesOf look x (Err w)) same of)

  pub whole_there : IsWhole look u.id
  whole_there = record {
    node = λ w of. (let e = of_id_one look u.id (Ok u) (Err w) read of in cc);
    entries = entries_whole;
    props = λ v w of wrong.
        let same : v ≡ u = ok_same v u (of_id_one look u.id (Ok v) (Ok u) of read) in
        let n = agrees.shown q u at in
        let e = props_one look u (Ok n.0.properties) (Err w) n.2.properties (subst (λ (x : NodeRev). PropsOf look x (Err w)) same wrong) in
        cc;
  }
    where
      entries_whole : (w : Wrong) → OfIdEntries look u.id (Err w) → ⊥
      entries_whole w (inl of) = let e = of_id_one look u.id (Ok u) (Err w) read of in cc
      entries_whole w (inr of) = entries_right w of.0 (ok_same of.0 u (of_id_one look u.id (Ok of.0) (Ok u) of.1 read)) of.0.kind refl of.2

-- it is of a revision that is told, and nothing of it is wrong
pub record IsSound (look : RevisionBytes) (top : ℕ) (id : NodeId) : Type 0 where
  pub within : (offset_of id.place).rev ≤ top
  pub whole : IsWhole look id

-- the source of something was noted: it is known, where it is sound
pub record IsNoted (look : RevisionBytes) (top : ℕ) (id : NodeId) (source : Option NodeId) (known : List Known) : Type 0 where
  pub lasting : is_revision_id id ≡ true → source ≡ Some id
  pub known_is : ((x : NodeId) → source ≡ Some x → IsSound look top x) → IsSourceKnown known source

module _ (look : RevisionBytes) (top base : ℕ) (trees : ℕ → TreeFunction) (shown : ShowTrees look top trees) (le : base ≤ top) (txn : TxnName) (f : Folder) (own : Own) (draft : IsDraft look top base txn f own) where
  abbrev Tree : TreeFunction
  Tree = draft_tree trees own (trees base)

  -- what an own node-revision goes on from
  own_sound : (p : Path) (v : OwnNode) → own p ≡ Some v → (id : NodeId) → v.node.predecessor ≡ Some id → IsSound look top id
  own_sound p v here id is =
      let u = goes_from look top v (above_at p own at_top) (λ q w. stands_at look p own (StandsAt look base) q w) id (rule_here look top base trees shown le txn f own draft p v here).0 is in
      let a = agrees_below look top base trees shown le txn f own draft p v here in
      subst (λ (i : NodeId). IsSound look top i) u.2 (record { within = a.within [] u.0 u.1; whole = whole_there look top _ _ a [] u.0 u.1 })

  own_within : (p : Path) (v : OwnNode) → own p ≡ Some v → IsWithin top v.node.predecessor
  own_within p v here = by v.node.predecessor refl
    where
      by : (o : Option NodeId) → v.node.predecessor ≡ o → IsWithin top o
      by None is = tt
      by (Some id) is = (own_sound p v here id is).within

  own_lasts : (p : Path) (v : OwnNode) → own p ≡ Some v → is_revision_id v.node.id ≡ false
  own_lasts p v here = own_id v.node.id txn (draft.places p v here)

  module _ (p : Path) (u : NodeRev) (at : IsLastingAt look trees base own p u) where
    abbrev Stands : Path → NodeRev → Type 0
    Stands q v = stands_under look (Some at.d) (λ r w. stands_at look at.p own (StandsAt look base) r w) q v

    agrees : Agrees look top Stands (shared_under trees (Some at.d) (shared_at trees at.p own (trees base)))
    agrees = agrees_below look top base trees shown le txn f own draft at.p at.d at.here

    lasting_read : OfId look u.id (Ok u)
    lasting_read = agrees.read at.q u at.stands

    lasting_sound : IsSound look top u.id
    lasting_sound = record { within = agrees.within at.q u at.stands; whole = whole_there look top _ _ agrees at.q u at.stands }

    lasting_lasts : is_revision_id u.id ≡ true
    lasting_lasts = lasting_id u (of_id_lasting look u.id u lasting_read)

    -- a step down from it
    lasting_step : u.kind ≡ Dir → (entries : List DirEntry) → EntriesOf look u (Ok entries) → (name : PathName) → is_some (Tree (p ++ name ∷ [])) ≡ true
        → (e : DirEntry) × (named name entries ≡ Some e) × IsIdAt look trees base own (p ++ name ∷ []) e.id
    lasting_step dir entries of name some = by (named name entries) refl
      where
        by : (o : Option DirEntry) → named name entries ≡ o → (e : DirEntry) × (named name entries ≡ Some e) × IsIdAt look trees base own (p ++ name ∷ []) e.id
        by None is =
            let child : ChildOf look u name (Ok None) = (entries, of, subst (λ (o : Option DirEntry). OfNamed look o (Ok None)) (sym is) refl) in
            let none = ap (λ (o : Option Node). is_some o) (below_none look top base trees shown le txn f own draft p u at dir name child) in
            no_both (is_some (Tree (p ++ name ∷ []))) some none
        by (Some e) is =
            let v = agrees.child at.q u entries name e at.stands dir of is in
            let child : ChildOf look u name (Ok (Some v.0)) = (entries, of, subst (λ (o : Option DirEntry). OfNamed look o (Ok (Some v.0))) (sym is) (v.0, v.2.read, (refl, v.2.kind))) in
            (e, is, LastingAt v.0 (below_some look top base trees shown le txn f own draft p u at dir name v.0 child).0 v.2.id)

  -- a step down from an own directory
  own_step : (p : Path) (d : OwnNode) (here : own p ≡ Some d) (dir : d.node.kind ≡ Dir) (entries : List DirEntry) → OfKept look (kept_of d) (Ok entries) → (name : PathName) → is_some (Tree (p ++ name ∷ [])) ≡ true
      → (e : DirEntry) × (named name entries ≡ Some e) × IsIdAt look trees base own (p ++ name ∷ []) e.id
  own_step p d here dir entries of name some = by (named name entries) refl
    where
      by_id : (e : DirEntry) → named name entries ≡ Some e → (b : Bool) → is_revision_id e.id ≡ b → IsIdAt look trees base own (p ++ name ∷ []) e.id
      by_id e is true lasts =
          let all = entries_here look top base trees shown le txn f own draft p d here dir entries of in
          let u = lasting_entry look top base trees shown le txn f own draft p d here dir name entries all e is lasts in
          let l = lasting_child look top base trees shown le txn f own draft p d here dir name entries all e is lasts u.0 u.1 in
          LastingAt u.0 l.0 (read_id look e.id u.0 u.1)
      by_id e is false mine =
          let all = entries_here look top base trees shown le txn f own draft p d here dir entries of in
          let v = own_entry look top base trees shown le txn f own draft p d here dir name entries all e is mine in
          OwnAt v.0 v.1 v.2

      by : (o : Option DirEntry) → named name entries ≡ o → (e : DirEntry) × (named name entries ≡ Some e) × IsIdAt look trees base own (p ++ name ∷ []) e.id
      by None is = absurd (has_named look top base trees shown le txn f own draft p d here dir name entries (entries_here look top base trees shown le txn f own draft p d here dir entries of) some is)
      by (Some e) is = (e, is, by_id e is (is_revision_id e.id) refl)

  pub step_down : (p : Path) (id : NodeId) → IsIdAt look trees base own p id → is_dir_node (Tree p) ≡ true → (known : List Known) (entries : List DirEntry) → HasEntries look f.nodes known id entries → (name : PathName) → is_some (Tree (p ++ name ∷ [])) ≡ true
      → (e : DirEntry) × (named name entries ≡ Some e) × IsIdAt look trees base own (p ++ name ∷ []) e.id
  step_down p id (OwnAt v here same) is_dir known entries (OfLasting l among of) name some = no_both (is_revision_id id) l (subst (λ (i : NodeId). is_revision_id i ≡ false) same (own_lasts p v here))
  step_down p id (OwnAt v here same) is_dir known entries (OfOwn k mine there d source of) name some =
      let dir = own_dir look top base trees shown le txn f own draft p v here is_dir in
      let is = kept_same look top base trees shown le txn f own draft p v here dir id k same there in
      own_step p v here dir entries (subst (λ (x : Kept). OfKept look x (Ok entries)) is of) name some
  step_down p id (LastingAt u at same) is_dir known entries (OfOwn k mine there d source of) name some = no_both (is_revision_id id) (subst (λ (i : NodeId). is_revision_id i ≡ true) same (lasting_lasts p u at)) mine
  step_down p id (LastingAt u at same) is_dir known entries (OfLasting l among of) name some =
      let dir = lasting_kind look top base trees shown le txn f own draft p u at Dir (dir_kind (Tree p) is_dir) in
      let there : OfIdEntries look u.id (Ok entries) = subst (λ (i : NodeId). OfIdEntries look i (Ok entries)) (sym same) of in
      let one : there.0 ≡ u = ok_same there.0 u (of_id_one look u.id (Ok there.0) (Ok u) there.1 (lasting_read p u at)) in
      let listed : OfKind look u.kind u (Ok entries) = subst (λ (x : NodeRev). OfKind look x.kind x (Ok entries)) one there.2 in
      lasting_step p u at dir entries (subst (λ (k : Kind). OfKind look k u (Ok entries)) dir listed) name some

  -- ---- what is noted on the way

  lasting_known : (id : NodeId) (source : Option NodeId) (known : List Known) → IsNoted look top id source known → is_revision_id id ≡ true → IsSound look top id → IsAmong id known
  lasting_known id source known noted lasts sound =
      let is = noted.lasting lasts in
      subst (λ (o : Option NodeId). IsSourceKnown known o) is (noted.known_is (λ x at. subst (λ (i : NodeId). IsSound look top i) (same_id x (sym is ∙ at)) sound))
    where
      same_id : (x : NodeId) → (let o : Option NodeId = Some id in o) ≡ Some x → id ≡ x
      same_id x e = cc

  own_known : (p : Path) (v : OwnNode) → own p ≡ Some v → (id : NodeId) (source : Option NodeId) (known : List Known) → IsNoted look top id source known → source ≡ v.node.predecessor → IsSourceKnown known v.node.predecessor
  own_known p v here id source known noted is = subst (λ (o : Option NodeId). IsSourceKnown known o) is (noted.known_is (λ x at. own_sound p v here x (sym is ∙ at)))

  pub dir_known : (p : Path) (id : NodeId) → IsIdAt look trees base own p id → is_dir_node (Tree p) ≡ true → (source : Option NodeId) (known : List Known) → IsNoted look top id source known
      → ((k : Kept) → is_revision_id id ≡ false → kept_at f.nodes id ≡ Some k → k.entries ≡ None → source ≡ k.node.predecessor) → IsDirKnown top f.nodes known id
  dir_known p id (OwnAt v here same) is_dir source known noted mine =
      let own_is = subst (λ (i : NodeId). is_revision_id i ≡ false) same (own_lasts p v here) in
      let there : kept_at f.nodes id ≡ Some (kept_of v) = ap (λ (i : NodeId). kept_at f.nodes i) (sym same) ∙ draft.kept p v here in
      OwnDir (kept_of v) own_is there (own_dir look top base trees shown le txn f own draft p v here is_dir) (own_within p v here) (λ none. own_known p v here id source known noted (mine (kept_of v) own_is there none))
  dir_known p id (LastingAt u at same) is_dir source known noted mine =
      let lasts = subst (λ (i : NodeId). is_revision_id i ≡ true) same (lasting_lasts p u at) in
      let sound = subst (λ (i : NodeId). IsSound look top i) same (lasting_sound p u at) in
      LastingDir lasts sound.within (lasting_known id source known noted lasts sound)

  pub end_known : (p : Path) (id : NodeId) → IsIdAt look trees base own p id → (source : Option NodeId) (known : List Known) → IsNoted look top id source known
      → ((k : Kept) → is_revision_id id ≡ false → kept_at f.nodes id ≡ Some k → source ≡ k.node.predecessor) → IsEndKnown f.nodes known id
  end_known p id (OwnAt v here same) source known noted mine =
      let own_is = subst (λ (i : NodeId). is_revision_id i ≡ false) same (own_lasts p v here) in
      let there : kept_at f.nodes id ≡ Some (kept_of v) = ap (λ (i : NodeId). kept_at f.nodes i) (sym same) ∙ draft.kept p v here in
      OwnEnd (kept_of v) own_is there (own_known p v here id source known noted (mine (kept_of v) own_is there))
  end_known p id (LastingAt u at same) source known noted mine =
      let lasts = subst (λ (i : NodeId). is_revision_id i ≡ true) same (lasting_lasts p u at) in
      let sound = subst (λ (i : NodeId). IsSound look top i) same (lasting_sound p u at) in
      LastingEnd lasts (lasting_known id source known noted lasts sound)

-- ---- what was known is known still

pub among_old : (ks : List Known) (one : Known) (id : NodeId) → IsAmong id ks → IsAmong id (ks ++ one ∷ [])
among_old [] one id h = absurd h
among_old (k ∷ ks) one id (inl same) = inl same
among_old (k ∷ ks) one id (inr later) = inr (among_old ks one id later)

pub among_new : (ks : List Known) (one : Known) (id : NodeId) → one.node.id ≡ id → IsAmong id (ks ++ one ∷ [])
among_new [] one id same = inl same
among_new (k ∷ ks) one id same = inr (among_new ks one id same)

pub entries_more : (look : RevisionBytes) (f : Folder) (known all : List Known) (id : NodeId) (entries : List DirEntry) → ((i : NodeId) → IsAmong i known → IsAmong i all) → HasEntries look f.nodes known id entries → HasEntries look f.nodes all id entries
entries_more look f known all id entries more (OfOwn k mine there dir source of) = OfOwn k mine there dir (λ none. source_more k.node.predecessor (source none)) of
  where
    source_more : (o : Option NodeId) → IsSourceKnown known o → IsSourceKnown all o
    source_more None h = tt
    source_more (Some i) h = more i h
entries_more look f known all id entries more (OfLasting l among of) = OfLasting l (more id among) of

-- the names so far lead there, whatever more is known
abbrev pub LeadsSoFar : RevisionBytes → Folder → List Known → Path → NodeId → NodeId → Type 0
LeadsSoFar look f known front root at = (all : List Known) (rest : Path) → ((id : NodeId) → IsAmong id known → IsAmong id all) → LeadsDown look f.nodes all rest at → LeadsDown look f.nodes all (front ++ rest) root

pub leads_further : (look : RevisionBytes) (f : Folder) (known now : List Known) (front : Path) (name : PathName) (root at next : NodeId) (entries : List DirEntry) (e : DirEntry) → ((i : NodeId) → IsAmong i known → IsAmong i now) → HasEntries look f.nodes now at entries → named name entries ≡ Some e → e.id ≡ next
    → LeadsSoFar look f known front root at → LeadsSoFar look f now (front ++ name ∷ []) root next
leads_further look f known now front name root at next entries e grown has is same so_far = λ all rest more leads.
    subst (λ (t : Path). LeadsDown look f.nodes all t root) (sym (append_assoc front (name ∷ []) rest))
    (so_far all (name ∷ rest) (λ i h. more i (grown i h)) (entries, e, entries_more look f now all at entries more has, is, subst (λ (i : NodeId). LeadsDown look f.nodes all rest i) (sym same) leads))

-- the id behind the name
pub next_is : (entries : List DirEntry) (name : PathName) (e : DirEntry) (next : NodeId) → (let o : Option NodeId = Some next in o) ≡ option_map (λ (x : DirEntry). x.id) (named name entries) → named name entries ≡ Some e → e.id ≡ next
next_is entries name e next is found = let both : Some next ≡ Some e.id = is ∙ ap (λ (o : Option DirEntry). option_map (λ (x : DirEntry). x.id) o) found in let one : next ≡ e.id = cc in sym one

pub no_next : {A : Type 0} (entries : List DirEntry) (name : PathName) (e : DirEntry) → (let o : Option NodeId = None in o) ≡ option_map (λ (x : DirEntry). x.id) (named name entries) → named name entries ≡ Some e → A
no_next entries name e is found = let both : None ≡ Some e.id = is ∙ ap (λ (o : Option DirEntry). option_map (λ (x : DirEntry). x.id) o) found in absurd cc

-- what was noted
pub noted : {T : Type 0} (look : RevisionBytes) (top : ℕ) (id : NodeId) (source : Option NodeId) (known : List Known) (r : T) → (is_revision_id id ≡ true → source ≡ Some id) → BecomesKnown look top source known (Ok r) → IsNoted look top id source known
noted look top id source known r lasting becomes = record { lasting = lasting; known_is = λ sound. by source refl sound becomes }
  where
    by : (o : Option NodeId) → source ≡ o → ((x : NodeId) → source ≡ Some x → IsSound look top x) → BecomesKnown look top o known (Ok r) → IsSourceKnown known source
    by None is sound h = subst (λ (o : Option NodeId). IsSourceKnown known o) (sym is) tt
    by (Some x) is sound h = subst (λ (o : Option NodeId). IsSourceKnown known o) (sym is) (h (sound x is).within (sound x is).whole)

-- What is read of ids, one reading after another.
use Rattle.std.proofs.Common.{◌≡◌, ◌∙◌, ℕ, Bool, true, false, ◌&&◌, List, Option, Some, None, Result, Ok, Err, refl, sym, ap, subst}
use Rattle.std.specs.Prelude.{option_map, not, nat_le, IfOk, IfErr, IfSome, if◌then◌else◌}
use Rattle.std.proofs.lemmas.Bool.{and_parts}
use Rattle.std.specs.declared.vec.Vec.{Vec}
use Rattle.std.specs.declared.alloc.Global.{Global}
use Rattle.fsfs_base.specs.declared.kind.Kind.TheVariants.{Dir}
use Rattle.fsfs_revision.specs.declared.damage.RevOffset.{RevOffset}
use Rattle.fsfs_revision.specs.declared.wrong.Wrong.{Wrong}
use Rattle.fsfs_revision.specs.declared.wrong.ReadError.{ReadError}
use Rattle.fsfs_revision.specs.declared.wrong.ReadError.TheVariants as errors
use Rattle.fsfs_revision.specs.Damage.Causes.{HasCause}
use Rattle.fsfs_revision.specs.Damage.Readings.{AndThen, Answers}
use Rattle.fsfs_revision.proofs.Answering.{stops, goes_on, answers_as}
use Rattle.fsfs_revision.specs.Told.{RevisionBytes}
use Rattle.fsfs_model.specs.Flat.Edits.{is_dir}
use Rattle.fsfs_noderev.specs.declared.node_id.NodeId.{NodeId}
use Rattle.fsfs_noderev.specs.declared.node_rev.NodeRev.{NodeRev}
use Rattle.fsfs_revision.specs.Shows.Chains.{copy_root_of}
use Rattle.fsfs_revision.specs.Shows.Reading.{DirEntry as EntryValue, EntriesOf, OfId, offset_of}
use Rattle.fsfs_dag.specs.declared.directory.DirEntry.{DirEntry}
use Rattle.fsfs_dag.specs.declared.node.PlacedNode.{PlacedNode}
use Rattle.fsfs_dag.specs.Same.{same_part}
use Rattle.fsfs_dag.specs.Views.{AreBefore}
use Rattle.fsfs_dag.proofs.PairLemmas.{entries_seen}
use Rattle.fsfs_draft.specs.Drafts.{Kept, Folder}
use Rattle.fsfs_draft.specs.Entries.{OfIdEntries, OfKept}
use Rattle.fsfs_draft.proofs.OwnEntries.{is_dir_kind}
use Rattle.fsfs_merge.specs.declared.clash.facts.Facts.{Facts}
use Rattle.fsfs_merge.specs.declared.clash.three.Target.{Target}
use Rattle.fsfs_merge.specs.declared.clash.turn.Dirs.{Dirs}
use Rattle.fsfs_merge.specs.declared.clash.turn.Listing.{Listing}
use Rattle.fsfs_merge.specs.Clash.Dirs.{dirs_of}
use Rattle.fsfs_merge.specs.Clash.Lists.{Lists, link_of}
use Rattle.fsfs_merge.specs.Clash.Readings.{kept_in, NodeOfKept, FactsBy, FactsOf, ListOfKept, ListOf, ListsOf, IfMerged, TurnAt}
use Rattle.fsfs_merge.specs.Clash.Sights.{facts_of, go_with, have_props_of, merge_with}
use Rattle.fsfs_merge.specs.Clash.Turning.{lists_value, IsFailure, IsTurn, turned, IsHome, IsTurnIn}

-- ---- the transaction's side

pub facts_kept : (look : RevisionBytes) (f : Folder) (id : NodeId) (k : Kept) (own : Facts) → kept_in f id ≡ Some k → own ≡ facts_of k.node → FactsOf look f id (Ok own)
facts_kept look f id k own e h = (k.node, subst (λ (o : Option Kept). NodeOfKept look o id (Ok k.node)) (sym e) refl, h)

pub facts_fail : (look : RevisionBytes) (id : NodeId) (e : ReadError) → Answers (λ (found : PlacedNode). found.node) (OfId look id) (Err e) → Answers (λ (facts : Facts). facts) (FactsBy (OfId look id)) (Err e)
facts_fail look id (errors.Wrong w) h = h
facts_fail look id errors.OutOfMemory h = tt
facts_fail look id errors.DiskFault h = tt

pub facts_lasting : (look : RevisionBytes) (f : Folder) (id : NodeId) (result : Result Facts ReadError) → kept_in f id ≡ None → Answers (λ (facts : Facts). facts) (FactsBy (OfId look id)) result → Answers (λ (facts : Facts). facts) (FactsOf look f id) result
facts_lasting look f id result e h = subst (λ (o : Option Kept). Answers (λ (facts : Facts). facts) (FactsBy (NodeOfKept look o id)) result) (sym e) h

pub list_kept : (look : RevisionBytes) (f : Folder) (id : NodeId) (k : Kept) (result : Result (Vec DirEntry Global) ReadError) → kept_in f id ≡ Some k → Answers entries_seen (OfKept look k) result → Answers entries_seen (ListOf look f id) result
list_kept look f id k result e h = answers_as entries_seen result (OfKept look k) (ListOf look f id) (λ r g. subst (λ (o : Option Kept). ListOfKept look o id r) (sym e) g) h

pub list_lasting : (look : RevisionBytes) (f : Folder) (id : NodeId) (result : Result (Vec DirEntry Global) ReadError) → kept_in f id ≡ None → Answers entries_seen (OfIdEntries look id) result → Answers entries_seen (ListOf look f id) result
list_lasting look f id result e h = answers_as entries_seen result (OfIdEntries look id) (ListOf look f id) (λ r g. subst (λ (o : Option Kept). ListOfKept look o id r) (sym e) g) h

-- ---- three directories

-- what is merged are directories
pub merged_dirs : (n : ℕ) (x y : NodeRev) (own : Facts) → merge_with n x y own ≡ true → (x.kind ≡ Dir) × (y.kind ≡ Dir)
merged_dirs n x y own h =
    let go = and_parts (go_with n x y own) (have_props_of x y own) h in
    let p4 = and_parts ((is_dir x.kind && is_dir y.kind && is_dir own.kind) && same_part x.id.node y.id.node && same_part x.id.node own.node && nat_le (copy_root_of y).0 n) (not own.is_copy) go.0 in
    let p3 = and_parts ((is_dir x.kind && is_dir y.kind && is_dir own.kind) && same_part x.id.node y.id.node && same_part x.id.node own.node) (nat_le (copy_root_of y).0 n) p4.0 in
    let p2 = and_parts ((is_dir x.kind && is_dir y.kind && is_dir own.kind) && same_part x.id.node y.id.node) (same_part x.id.node own.node) p3.0 in
    let p1 = and_parts (is_dir x.kind && is_dir y.kind && is_dir own.kind) (same_part x.id.node y.id.node) p2.0 in
    let d2 = and_parts (is_dir x.kind && is_dir y.kind) (is_dir own.kind) p1.0 in
    let d1 = and_parts (is_dir x.kind) (is_dir y.kind) d2.0 in
    (is_dir_kind x.kind d1.0, is_dir_kind y.kind d1.1)

module _ (look : RevisionBytes) (f : Folder) where
  -- their lists
  module _ (x y : NodeRev) (own : NodeId) where
    abbrev After : List EntryValue → Result Lists Wrong → Type 0
    After a = AndThen (EntriesOf look y) (λ (b : List EntryValue). AndThen (ListOf look f own) (λ (c : List EntryValue) (r : Result Lists Wrong). r ≡ Ok (record { link = link_of y own; base = a; head = b; own = c })))

    abbrev Last : List EntryValue → List EntryValue → Result Lists Wrong → Type 0
    Last a b = AndThen (ListOf look f own) (λ (c : List EntryValue) (r : Result Lists Wrong). r ≡ Ok (record { link = link_of y own; base = a; head = b; own = c }))

    pub lists_base : (e : ReadError) → Answers entries_seen (EntriesOf look x) (Err e) → Answers lists_value (ListsOf look f x y own) (Err e)
    lists_base e h = stops entries_seen lists_value e (EntriesOf look x) After h

    pub lists_head : (a : List EntryValue) (e : ReadError) → EntriesOf look x (Ok a) → Answers entries_seen (EntriesOf look y) (Err e) → Answers lists_value (ListsOf look f x y own) (Err e)
    lists_head a e ha h = goes_on lists_value (Err e) (EntriesOf look x) After a ha (stops entries_seen lists_value e (EntriesOf look y) (Last a) h)

    pub lists_own : (a b : List EntryValue) (e : ReadError) → EntriesOf look x (Ok a) → EntriesOf look y (Ok b) → Answers entries_seen (ListOf look f own) (Err e) → Answers lists_value (ListsOf look f x y own) (Err e)
    lists_own a b e ha hb h =
        goes_on lists_value (Err e) (EntriesOf look x) After a ha
        (goes_on lists_value (Err e) (EntriesOf look y) (Last a) b hb (stops entries_seen lists_value e (ListOf look f own) (λ (c : List EntryValue) (r : Result Lists Wrong). r ≡ Ok (record { link = link_of y own; base = a; head = b; own = c })) h))

    pub lists_all : (a b c : List EntryValue) → EntriesOf look x (Ok a) → EntriesOf look y (Ok b) → ListOf look f own (Ok c) → ListsOf look f x y own (Ok (record { link = link_of y own; base = a; head = b; own = c }))
    lists_all a b c ha hb hc = (a, ha, (b, hb, (c, hc, refl)))

  -- and whether they are merged
  module _ (n : ℕ) (d : Dirs) where
    abbrev pub seen : Option Listing → Option Lists
    seen o = option_map lists_value o

    abbrev Third : NodeRev → NodeRev → Facts → Result (Option Lists) Wrong → Type 0
    Third x y own = IfMerged (merge_with n x y own) (ListsOf look f x y d.own)

    abbrev Second : NodeRev → NodeRev → Result (Option Lists) Wrong → Type 0
    Second x y = AndThen (FactsOf look f d.own) (Third x y)

    abbrev First : NodeRev → Result (Option Lists) Wrong → Type 0
    First x = AndThen (OfId look d.head) (Second x)

    pub turn_base : (e : ReadError) → Answers (λ (found : PlacedNode). found.node) (OfId look d.base) (Err e) → Answers seen (TurnAt look f n d) (Err e)
    turn_base e h = stops (λ (found : PlacedNode). found.node) seen e (OfId look d.base) First h

    pub turn_head : (x : NodeRev) (e : ReadError) → OfId look d.base (Ok x) → Answers (λ (found : PlacedNode). found.node) (OfId look d.head) (Err e) → Answers seen (TurnAt look f n d) (Err e)
    turn_head x e hx h = goes_on seen (Err e) (OfId look d.base) First x hx (stops (λ (found : PlacedNode). found.node) seen e (OfId look d.head) (Second x) h)

    -- where the first two are read
    module _ (x y : NodeRev) (hx : OfId look d.base (Ok x)) (hy : OfId look d.head (Ok y)) where
      then_so : (result : Result (Option Listing) ReadError) → Answers seen (Second x y) result → Answers seen (TurnAt look f n d) result
      then_so result h = goes_on seen result (OfId look d.base) First x hx (goes_on seen result (OfId look d.head) (Second x) y hy h)

      pub turn_own : (e : ReadError) → Answers (λ (facts : Facts). facts) (FactsOf look f d.own) (Err e) → Answers seen (TurnAt look f n d) (Err e)
      turn_own e h = then_so (Err e) (stops (λ (facts : Facts). facts) seen e (FactsOf look f d.own) (Third x y) h)

      module _ (own : Facts) (ho : FactsOf look f d.own (Ok own)) where
        then_all : (result : Result (Option Listing) ReadError) → Answers seen (Third x y own) result → Answers seen (TurnAt look f n d) result
        then_all result h = then_so result (goes_on seen result (FactsOf look f d.own) (Third x y) own ho h)

        pub turn_apart : merge_with n x y own ≡ false → TurnAt look f n d (Ok None)
        turn_apart apart = then_all (Ok None) (subst (λ (b : Bool). IfMerged b (ListsOf look f x y d.own) (Ok None)) (sym apart) refl)

        pub turn_down : (lists : Listing) → merge_with n x y own ≡ true → ListsOf look f x y d.own (Ok (lists_value lists)) → TurnAt look f n d (Ok (Some (lists_value lists)))
        turn_down lists is h = then_all (Ok (Some lists)) (subst (λ (b : Bool). IfMerged b (ListsOf look f x y d.own) (Ok (Some (lists_value lists)))) (sym is) h)

        pub turn_lists : (e : ReadError) → merge_with n x y own ≡ true → Answers lists_value (ListsOf look f x y d.own) (Err e) → Answers seen (TurnAt look f n d) (Err e)
        turn_lists e is h = then_all (Err e) (by e h)
          where
            by : (e : ReadError) → Answers lists_value (ListsOf look f x y d.own) (Err e) → Answers seen (Third x y own) (Err e)
            by (errors.Wrong w) h = subst (λ (b : Bool). IfMerged b (ListsOf look f x y d.own) (Err w)) (sym is) h
            by errors.OutOfMemory h = tt
            by errors.DiskFault h = tt

-- ---- what was read is found

pub turns_from : (R : Result (Option Lists) Wrong → Type 0) (read : Result (Option Listing) ReadError) → Answers (option_map lists_value) R read → IfOk (turned read) (IsTurn R)
turns_from R (Ok None) h = h
turns_from R (Ok (Some lists)) h = h
turns_from R (Err (errors.Wrong w)) h = h
turns_from R (Err errors.OutOfMemory) h = tt
turns_from R (Err errors.DiskFault) h = tt

pub failure_turned : (read : Result (Option Listing) ReadError) → IfErr (turned read) IsFailure
failure_turned (Ok None) = tt
failure_turned (Ok (Some lists)) = tt
failure_turned (Err (errors.Wrong w)) = tt
failure_turned (Err errors.OutOfMemory) = tt
failure_turned (Err errors.DiskFault) = tt

pub cause_turned : (before now : ℕ) (read : Result (Option Listing) ReadError) → HasCause before now read → HasCause before now (turned read)
cause_turned before now (Ok None) h = record { later = h.later; failed = tt }
cause_turned before now (Ok (Some lists)) h = record { later = h.later; failed = tt }
cause_turned before now (Err (errors.Wrong w)) h = record { later = h.later; failed = tt }
cause_turned before now (Err errors.OutOfMemory) h = record { later = h.later; failed = tt }
cause_turned before now (Err errors.DiskFault) h = record { later = h.later; failed = h.failed }

-- ---- the base's directory

pub dirs_base : (x y v : Option Target) (d : Dirs) → dirs_of x y v ≡ Some d → (b : Target) × (x ≡ Some b) × (d.base ≡ b.id)
dirs_base None y v d h = absurd (let g : None ≡ Some d = h in cc)
dirs_base (Some a) None v d h = absurd (let g : None ≡ Some d = h in cc)
dirs_base (Some a) (Some c) None d h = absurd (let g : None ≡ Some d = h in cc)
dirs_base (Some a) (Some c) (Some e) d h = by (is_dir a.kind && is_dir c.kind && is_dir e.kind) h
  where
    all : Dirs
    all = record { base = a.id; head = c.id; own = e.id }

    by : (b : Bool) → (if b then Some all else None) ≡ Some d → (b : Target) × (Some a ≡ Some b) × (d.base ≡ b.id)
    by false g = absurd (let k : None ≡ Some d = g in cc)
    by true g = let same : all ≡ d = (let k = g in cc) in (a, refl, sym (ap (λ (k : Dirs). k.base) same))

pub homes_in : (x y v : Option Target) (d : Dirs) (result : Result (Option Listing) ReadError) → dirs_of x y v ≡ Some d → IfOk result (λ o. IfSome o (λ lists. lists.home ≡ offset_of d.base.place))
    → IfOk result (λ o. IfSome o (λ lists. AreBefore (offset_of d.base.place) lists.base.items)) → IfOk result (λ o. IfSome o (λ lists. IsHome lists x))
homes_in x y v d (Err e) is home before = tt
homes_in x y v d (Ok None) is home before = tt
homes_in x y v d (Ok (Some lists)) is home before =
    let w = dirs_base x y v d is in
    let stands : IsHome lists (Some w.0) = (home ∙ ap (λ (id : NodeId). offset_of id.place) w.2, subst (λ (at : RevOffset). AreBefore at lists.base.items) (sym home) before) in
    subst (λ (o : Option Target). IsHome lists o) (sym w.1) stands

pub turn_in : (base : Option Target) (read : Result (Option Listing) ReadError) → IfOk read (λ o. IfSome o (λ lists. IsHome lists base)) → IfOk (turned read) (IsTurnIn base)
turn_in base (Ok None) h = tt
turn_in base (Ok (Some lists)) h = h
turn_in base (Err (errors.Wrong w)) h = tt
turn_in base (Err errors.OutOfMemory) h = tt
turn_in base (Err errors.DiskFault) h = tt

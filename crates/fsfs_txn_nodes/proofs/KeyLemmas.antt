-- Tables by key, as files by node part and copy part.
use Rattle.std.proofs.Common.{◌≡◌, Bool, true, false, cond, ◌&&◌, List, [], refl, sym, ap, ◌∙◌}
use Rattle.std.proofs.Math.Path.{fun_ext}
use Rattle.std.specs.Prelude.{Option, Some, None, option_map, Result, Ok, Err, IsOk, OnOk}
use Rattle.std.specs.Option.{option_copied}
use Rattle.std.proofs.Common.{Bor}
use Rattle.std.specs.HashMap.{HashMap, get, get_by}
use Rattle.std.specs.Map.{lookup}
use Rattle.fsfs_noderev.specs.Ids.{PartValue, New, Old, Made, part_value}
use Rattle.fsfs_noderev.specs.declared.node_id.NodeId.{NodeId}
use Rattle.fsfs_draft.specs.Drafts.{Kept}
use Rattle.fsfs_draft.specs.Steps.{Files, same_value, with_kept, kept_at}
use Rattle.fsfs_draft.specs.declared.txn_noderevs.KeptNode.{KeptNode}
use Rattle.fsfs_draft.specs.Views.{kept_value}
use Rattle.fsfs_txn_nodes.specs.declared.memory.keys.KeyPart.{KeyPart}
use Rattle.fsfs_txn_nodes.specs.declared.memory.keys.KeyPart.TheVariants as keys
use Rattle.fsfs_txn_nodes.specs.declared.memory.keys.NodeKey.{NodeKey}
use Rattle.fsfs_txn_nodes.specs.Memory.Keys.{part_of, has_parts, at_key, with_key}
use Rattle.fsfs_txn_nodes.specs.Memory.Lists.{files_of}

abbrev part_key : PartValue → KeyPart
part_key (New n) = keys.New n
part_key (Old n) = keys.Old n
part_key (Made n rev) = keys.Made n rev

part_back : (p : PartValue) → part_of (part_key p) ≡ p
part_back (New n) = refl
part_back (Old n) = refl
part_back (Made n rev) = refl

abbrev key_at : PartValue → PartValue → NodeKey
key_at node copy = record { node = part_key node; copy = part_key copy }

-- files are the same if they are at each key
pub each_key : (f g : Files) → ((q : NodeKey) → at_key f q ≡ at_key g q) → f ≡ g
each_key f g h = fun_ext (λ (node : PartValue). fun_ext (λ (copy : PartValue).
    sym (λ i. f (part_back node i) (part_back copy i)) ∙ h (key_at node copy) ∙ (λ i. g (part_back node i) (part_back copy i))))

-- a test of keys that compares their parts
abbrev pub IsKeyTest : (NodeKey → NodeKey → Bool) → Type 0
IsKeyTest eq = (q k : NodeKey) → eq q k ≡ has_parts (part_of q.node) (part_of q.copy) k

pub files_get : {S : Type 0} (eq : NodeKey → NodeKey → Bool) → IsKeyTest eq → (m : HashMap NodeKey KeptNode S) (q : NodeKey) → at_key (files_of m) q ≡ option_map kept_value (get eq m q)
files_get eq same m q = ap (λ (t : NodeKey → Bool). option_map kept_value (get_by t m)) (fun_ext (λ (k : NodeKey). sym (same q k)))

-- what a look gives is read where it stands
pub read_kept : (found : Option (Bor KeptNode)) → option_map (λ (k : Bor KeptNode). kept_value k.now) found ≡ option_map kept_value (option_copied found)
read_kept None = refl
read_kept (Some k) = refl

map_cond : (b : Bool) (v : KeptNode) (o : Option KeptNode) → option_map kept_value (cond b (Some v) o) ≡ cond b (Some (kept_value v)) (option_map kept_value o)
map_cond true v o = refl
map_cond false v o = refl

-- the same at each key: the same files
pub same_files : {S : Type 0} (eq : NodeKey → NodeKey → Bool) → IsKeyTest eq → (m n : HashMap NodeKey KeptNode S) → ((q : NodeKey) → get eq n q ≡ get eq m q) → files_of n ≡ files_of m
same_files eq same m n h = each_key (files_of n) (files_of m) (λ q. files_get eq same n q ∙ ap (λ (o : Option KeptNode). option_map kept_value o) (h q) ∙ sym (files_get eq same m q))

-- a node-revision more, or in place of another
pub put_files : {S : Type 0} (eq : NodeKey → NodeKey → Bool) → IsKeyTest eq → (m n : HashMap NodeKey KeptNode S) (key : NodeKey) (v : KeptNode) → ((q : NodeKey) → get eq n q ≡ cond (eq key q) (Some v) (get eq m q))
    → files_of n ≡ with_key key (kept_value v) (files_of m)
put_files eq same m n key v h = each_key (files_of n) (with_key key (kept_value v) (files_of m)) (λ q.
    files_get eq same n q ∙ ap (λ (o : Option KeptNode). option_map kept_value o) (h q) ∙ map_cond (eq key q) v (get eq m q)
    ∙ (λ i. cond (same key q i) (Some (kept_value v)) (sym (files_get eq same m q) i)))

-- where a call has answered `Ok`
pub from_ok : {T E : Type 0} (r : Result T E) (P : Type 0) → IsOk r → OnOk r P → P
from_ok (Ok x) P ok h = h
from_ok (Err e) P ok h = absurd cc

-- a table with nothing has no files
pub no_files : {S : Type 0} (m : HashMap NodeKey KeptNode S) → m.entries ≡ [] → files_of m ≡ (λ (node copy : PartValue). None)
no_files m none = fun_ext (λ (node : PartValue). fun_ext (λ (copy : PartValue). ap (λ (es : List (NodeKey × KeptNode)). option_map kept_value (lookup (has_parts node copy) es)) none))

-- files put by a key are those put by an id with its parts
pub put_by_id : (key : NodeKey) (id : NodeId) (k : Kept) (files : Files) → part_of key.node ≡ part_value id.node → part_of key.copy ≡ part_value id.copy → with_key key k files ≡ with_kept id k files
put_by_id key id k files node_is copy_is = λ i node copy. cond (same_value (node_is i) node && same_value (copy_is i) copy) (Some k) (files node copy)

-- what stands at a key stands at such an id
pub at_id : (key : NodeKey) (id : NodeId) (files : Files) → part_of key.node ≡ part_value id.node → part_of key.copy ≡ part_value id.copy → at_key files key ≡ kept_at files id
at_id key id files node_is copy_is = λ i. files (node_is i) (copy_is i)

pub found_at_id : (key : NodeKey) (id : NodeId) (files : Files) (k : Kept) → Some k ≡ at_key files key → part_of key.node ≡ part_value id.node → part_of key.copy ≡ part_value id.copy → kept_at files id ≡ Some k
found_at_id key id files k found node_is copy_is = sym (at_id key id files node_is copy_is) ∙ sym found

-- one node-revision, in a table that had none
pub first_files : {S : Type 0} (none room first : HashMap NodeKey KeptNode S) (key : NodeKey) (kept : KeptNode) (id : NodeId) (k : Kept) → none.entries ≡ [] → files_of room ≡ files_of none → files_of first ≡ with_key key (kept_value kept) (files_of room)
    → part_of key.node ≡ part_value id.node → part_of key.copy ≡ part_value id.copy → kept_value kept ≡ k → files_of first ≡ with_kept id k (λ (node copy : PartValue). None)
first_files none room first key kept id k empty same put node_is copy_is value =
    put ∙ put_by_id key id (kept_value kept) (files_of room) node_is copy_is ∙ (λ i. with_kept id (value i) ((same ∙ no_files none empty) i))

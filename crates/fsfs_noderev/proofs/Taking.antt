-- Lines are taken in one way at most.
use Rattle.std.proofs.Common.{◌≡◌, ◌<◌, ◌≤◌, ◌-◌, ℕ, List, [], ◌∷◌, ◌++◌, length, Option, Some, None, refl, sym, ap, subst, ◌∙◌, append_assoc, arith, inl, inr}
use Rattle.std.proofs.lemmas.Option.{some_pair_parts, same_Some}
use Rattle.std.specs.List.{flat_map}
use Rattle.std.proofs.lemmas.List.{length-append, nil_from_length, append-nil}
use Rattle.fsfs_base.specs.Grammar.Relations.{Begins}
use Rattle.fsfs_base.specs.Grammar.Cuts.{Lacks, cut}
use Rattle.fsfs_base.proofs.Spelling.{IsOne}
use Rattle.fsfs_base.proofs.CutLemmas.{cut_found, cut_again, cut_none}
use Rattle.fsfs_noderev.specs.Ids.{IsNumber64}
use Rattle.fsfs_noderev.specs.Lines.{IsPair, line, pair_at}
use Rattle.fsfs_noderev.specs.Fields.{field_named, IsIdText, IsKindText, AreContentsText, IsPathText, IsSourceText, IsRootText, IsYes, Sets, Puts, Bars, Refuses, nothing}
use Rattle.fsfs_noderev.specs.NodeRevs.{Takes, IsNodeText, Means, AreFull, AreRead, IsRead, IsRefused, StopsAt, IsMissing, NoId, NoKind, NoPath, IsNodeFault}
use Rattle.fsfs_noderev.specs.Steps.{IsTaken, HasFront}
use Rattle.fsfs_noderev.specs.declared.fields.Fields.{Fields}
use Rattle.fsfs_noderev.specs.declared.node_rev.Field.{Field}
use Rattle.fsfs_noderev.specs.declared.node_rev.Field.TheVariants.{Id, NodeKind, Predecessor, Count, Text, Props, CreatedPath, CopiedFrom, CopiedRoot, FreshTxnRoot, MergeinfoCount, MergeinfoHere}
use Rattle.fsfs_noderev.specs.declared.node_rev.Which.{Which}
use Rattle.fsfs_noderev.specs.declared.node_rev.Which.TheVariants.{BadLine, NoEnd}
use Rattle.fsfs_noderev.specs.declared.node_rev.NodeRev.{NodeRev}
use Rattle.fsfs_noderev.proofs.FieldTexts.{id_one, kind_one, number_one, contents_one, path_one, source_one, root_one, yes_one}
use Rattle.fsfs_noderev.proofs.LineTexts.{pair_found, pair_again, line_parts, line_cut}

abbrev Pair : Type 0
Pair = List ℕ × List ℕ

-- ---- one line

sets_same : {X : Type 0} (G : List ℕ → X → Type 0) → IsOne G → (value : List ℕ) (old : Option X) (f : X → Fields) (t u : Fields) → Sets G value old f t → Sets G value old f u → t ≡ u
sets_same G one value old f t u v w = v.3 ∙ ap f (one value v.1 w.1 v.2 w.2) ∙ sym w.3

puts_same : (o : Option Field) (value : List ℕ) (s t u : Fields) → Puts o value s t → Puts o value s u → t ≡ u
puts_same None value s t u v w = v ∙ sym w
puts_same (Some Id) value s t u v w = sets_same IsIdText id_one value s.id (λ x. record s { id = Some x }) t u v w
puts_same (Some NodeKind) value s t u v w = sets_same IsKindText kind_one value s.kind (λ x. record s { kind = Some x }) t u v w
puts_same (Some Predecessor) value s t u v w = sets_same IsIdText id_one value s.predecessor (λ x. record s { predecessor = Some x }) t u v w
puts_same (Some Count) value s t u v w = sets_same IsNumber64 number_one value s.count (λ x. record s { count = Some x }) t u v w
puts_same (Some Text) value s t u v w = sets_same AreContentsText contents_one value s.text (λ x. record s { text = Some x }) t u v w
puts_same (Some Props) value s t u v w = sets_same AreContentsText contents_one value s.props (λ x. record s { props = Some x }) t u v w
puts_same (Some CreatedPath) value s t u v w = sets_same IsPathText path_one value s.created_path (λ x. record s { created_path = Some x }) t u v w
puts_same (Some CopiedFrom) value s t u v w = sets_same IsSourceText source_one value s.copy_from (λ x. record s { copy_from = Some x }) t u v w
puts_same (Some CopiedRoot) value s t u v w = sets_same IsRootText root_one value s.copy_root (λ x. record s { copy_root = Some x }) t u v w
puts_same (Some FreshTxnRoot) value s t u v w = sets_same IsYes yes_one value s.fresh_txn_root (λ x. record s { fresh_txn_root = Some x }) t u v w
puts_same (Some MergeinfoCount) value s t u v w = sets_same IsNumber64 number_one value s.mergeinfo_count (λ x. record s { mergeinfo_count = Some x }) t u v w
puts_same (Some MergeinfoHere) value s t u v w = sets_same IsYes yes_one value s.mergeinfo_here (λ x. record s { mergeinfo_here = Some x }) t u v w

bars_clash : {X : Type 0} (G : List ℕ → X → Type 0) (value : List ℕ) (old : Option X) (f : X → Fields) (t : Fields) (field : Field) (which : Which) → Sets G value old f t → Bars G value old field which → ⊥
bars_clash G value old f t field which v (inl b) = b.0 v.0
bars_clash G value old f t field which v (inr b) = b.1 v.1 v.2

puts_clash : (o : Option Field) (value : List ℕ) (s t : Fields) (which : Which) → Puts o value s t → Refuses o value s which → ⊥
puts_clash None value s t which v b = b
puts_clash (Some Id) value s t which v b = bars_clash IsIdText value s.id (λ x. record s { id = Some x }) t Id which v b
puts_clash (Some NodeKind) value s t which v b = bars_clash IsKindText value s.kind (λ x. record s { kind = Some x }) t NodeKind which v b
puts_clash (Some Predecessor) value s t which v b = bars_clash IsIdText value s.predecessor (λ x. record s { predecessor = Some x }) t Predecessor which v b
puts_clash (Some Count) value s t which v b = bars_clash IsNumber64 value s.count (λ x. record s { count = Some x }) t Count which v b
puts_clash (Some Text) value s t which v b = bars_clash AreContentsText value s.text (λ x. record s { text = Some x }) t Text which v b
puts_clash (Some Props) value s t which v b = bars_clash AreContentsText value s.props (λ x. record s { props = Some x }) t Props which v b
puts_clash (Some CreatedPath) value s t which v b = bars_clash IsPathText value s.created_path (λ x. record s { created_path = Some x }) t CreatedPath which v b
puts_clash (Some CopiedFrom) value s t which v b = bars_clash IsSourceText value s.copy_from (λ x. record s { copy_from = Some x }) t CopiedFrom which v b
puts_clash (Some CopiedRoot) value s t which v b = bars_clash IsRootText value s.copy_root (λ x. record s { copy_root = Some x }) t CopiedRoot which v b
puts_clash (Some FreshTxnRoot) value s t which v b = bars_clash IsYes value s.fresh_txn_root (λ x. record s { fresh_txn_root = Some x }) t FreshTxnRoot which v b
puts_clash (Some MergeinfoCount) value s t which v b = bars_clash IsNumber64 value s.mergeinfo_count (λ x. record s { mergeinfo_count = Some x }) t MergeinfoCount which v b
puts_clash (Some MergeinfoHere) value s t which v b = bars_clash IsYes value s.mergeinfo_here (λ x. record s { mergeinfo_here = Some x }) t MergeinfoHere which v b

line_same : (p q : Pair) (a b : List ℕ) → IsPair p → IsPair q → line p ++ a ≡ line q ++ b → (p ≡ q) × (a ≡ b)
line_same p q a b is_p is_q e =
    let s = some_pair_parts _ _ a b (sym (line_cut p a is_p) ∙ ap (cut 10) e ∙ line_cut q b is_q) in
    (same_Some p q (sym (pair_again p is_p) ∙ ap pair_at s.0 ∙ pair_again q is_q), s.1)

line_not_end : (p : Pair) (a b : List ℕ) → IsPair p → line p ++ a ≡ 10 ∷ b → ⊥
line_not_end p a b is e =
    let s = some_pair_parts _ [] a b (sym (line_cut p a is) ∙ ap (cut 10) e) in
    omega (arith, ap length s.0, length-append p.0 (58 ∷ 32 ∷ p.1))

-- ---- many lines

regroup : (l : Pair) (ls : List Pair) (rest : List ℕ) → flat_map line (l ∷ ls) ++ rest ≡ line l ++ (flat_map line ls ++ rest)
regroup l ls rest = append_assoc (line l) (flat_map line ls) rest

both_end : (ls ms : List Pair) (s t u : Fields) (a b : List ℕ) → Takes s ls t → Takes s ms u → flat_map line ls ++ 10 ∷ a ≡ flat_map line ms ++ 10 ∷ b → (t ≡ u) × (a ≡ b)
both_end [] [] s t u a b v w e = (v ∙ sym w, (let f : a ≡ b = cc in f))
both_end [] (m ∷ ms) s t u a b v w e = absurd (line_not_end m (flat_map line ms ++ 10 ∷ b) a w.0 (sym (regroup m ms (10 ∷ b)) ∙ sym e))
both_end (l ∷ ls) [] s t u a b v w e = absurd (line_not_end l (flat_map line ls ++ 10 ∷ a) b v.0 (sym (regroup l ls (10 ∷ a)) ∙ e))
both_end (l ∷ ls) (m ∷ ms) s t u a b v w e =
    let same = line_same l m (flat_map line ls ++ 10 ∷ a) (flat_map line ms ++ 10 ∷ b) v.0 w.0 (sym (regroup l ls (10 ∷ a)) ∙ e ∙ regroup m ms (10 ∷ b)) in
    let next : Puts (field_named l.0) l.1 s w.1 = subst (λ (p : Pair). Puts (field_named p.0) p.1 s w.1) (sym same.0) w.2 in
    let state = puts_same (field_named l.0) l.1 s v.1 w.1 v.2 next in
    both_end ls ms v.1 t u a b v.3 (subst (λ (f : Fields). Takes f ms u) (sym state) w.3) same.1

lacks_no_end : (a b : List ℕ) → Lacks 10 (a ++ 10 ∷ b) → ⊥
lacks_no_end [] b lacks = (let e = lacks.0 in absurd cc)
lacks_no_end (x ∷ a) b lacks = lacks_no_end a b lacks.1

-- bytes that begin with the end or with a line that is taken are not refused
refused_not : (ms : List Pair) (s u : Fields) (rest b : List ℕ) (left : ℕ) (which : Which) → Takes s ms u → rest ≡ flat_map line ms ++ 10 ∷ b → IsRefused s rest left which → ⊥
refused_not ms s u rest b left which w e (inl r) = lacks_no_end (flat_map line ms) b (subst (λ (t : List ℕ). Lacks 10 t) e r.lacks)
refused_not [] s u rest b left which w e (inr (inl r)) =
    let p = some_pair_parts r.text [] r.more b (sym (cut_again 10 r.text r.more r.lacks) ∙ ap (cut 10) (sym r.parts ∙ e)) in
    r.filled p.0
refused_not (m ∷ ms) s u rest b left which w e (inr (inl r)) =
    let p = some_pair_parts r.text _ r.more (flat_map line ms ++ 10 ∷ b) (sym (cut_again 10 r.text r.more r.lacks) ∙ ap (cut 10) (sym r.parts ∙ e ∙ regroup m ms (10 ∷ b)) ∙ line_cut m (flat_map line ms ++ 10 ∷ b) w.0) in
    r.no_pair m w.0 p.0
refused_not [] s u rest b left which w e (inr (inr r)) = line_not_end r.pair r.more b r.is_pair (sym r.parts ∙ e)
refused_not (m ∷ ms) s u rest b left which w e (inr (inr r)) =
    let same = line_same r.pair m r.more (flat_map line ms ++ 10 ∷ b) r.is_pair w.0 (sym r.parts ∙ e ∙ regroup m ms (10 ∷ b)) in
    puts_clash (field_named m.0) m.1 s w.1 which w.2 (subst (λ (p : Pair). Refuses (field_named p.0) p.1 s which) same.0 r.refused)

stop_not_end : (ls ms : List Pair) (s t u : Fields) (rest b : List ℕ) (left : ℕ) (which : Which) → Takes s ls t → IsRefused t rest left which → Takes s ms u → flat_map line ls ++ rest ≡ flat_map line ms ++ 10 ∷ b → ⊥
stop_not_end [] ms s t u rest b left which v r w e = refused_not ms s u rest b left which w e (subst (λ (f : Fields). IsRefused f rest left which) v r)
stop_not_end (l ∷ ls) [] s t u rest b left which v r w e = line_not_end l (flat_map line ls ++ rest) b v.0 (sym (regroup l ls rest) ∙ e)
stop_not_end (l ∷ ls) (m ∷ ms) s t u rest b left which v r w e =
    let same = line_same l m (flat_map line ls ++ rest) (flat_map line ms ++ 10 ∷ b) v.0 w.0 (sym (regroup l ls rest) ∙ e ∙ regroup m ms (10 ∷ b)) in
    let next : Puts (field_named l.0) l.1 s w.1 = subst (λ (p : Pair). Puts (field_named p.0) p.1 s w.1) (sym same.0) w.2 in
    let state = puts_same (field_named l.0) l.1 s v.1 w.1 v.2 next in
    stop_not_end ls ms v.1 t u rest b left which v.3 r (subst (λ (f : Fields). Takes f ms u) (sym state) w.3) same.1

-- ---- the code's steps

pub no_end : (s : Fields) (bytes : List ℕ) → None ≡ cut 10 bytes → IsRefused s bytes 0 NoEnd
no_end s bytes e = inl (record { lacks = cut_none 10 bytes (sym e); place = refl; why = refl })

pub ended : (bytes text rest : List ℕ) → (let o : Option Pair = Some (text, rest) in o) ≡ cut 10 bytes → length text < 1 → bytes ≡ 10 ∷ rest
ended bytes text rest e short =
    (cut_found 10 bytes text rest (sym e)).parts ∙ ap (λ (t : List ℕ). t ++ 10 ∷ rest) (nil_from_length text (omega (arith, short)))

pub bad_line : (s : Fields) (bytes text rest : List ℕ) → (let o : Option Pair = Some (text, rest) in o) ≡ cut 10 bytes → 1 ≤ length text → None ≡ pair_at text → IsRefused s bytes (length bytes) BadLine
bad_line s bytes text rest e some none =
    let w = cut_found 10 bytes text rest (sym e) in
    inr (inl (record {
      text = text;
      more = rest;
      lacks = w.lacks;
      filled = λ empty. omega (arith, some, ap length empty);
      no_pair = λ pair is same. clash pair (sym (pair_again pair is) ∙ ap pair_at (sym same) ∙ sym none);
      parts = w.parts;
      place = refl;
      why = refl;
    }))
  where
    clash : (pair : Pair) → Some pair ≡ None → ⊥
    clash pair e = absurd cc

record IsFirst (bytes text rest name value : List ℕ) : Type 0 where
  pub is_pair : IsPair (name, value)
  pub parts : bytes ≡ line (name, value) ++ rest

first_line : (bytes text rest name value : List ℕ) → (let o : Option Pair = Some (text, rest) in o) ≡ cut 10 bytes → (let o : Option Pair = Some (name, value) in o) ≡ pair_at text → IsFirst bytes text rest name value
first_line bytes text rest name value e f =
    let w = cut_found 10 bytes text rest (sym e) in
    let p = pair_found text (name, value) w.lacks (sym f) in
    record { is_pair = p.0; parts = w.parts ∙ ap (λ (t : List ℕ). t ++ 10 ∷ rest) p.1 ∙ line_parts (name, value) rest }

pub taken : (s t : Fields) (bytes text rest name value : List ℕ) → (let o : Option Pair = Some (text, rest) in o) ≡ cut 10 bytes → (let o : Option Pair = Some (name, value) in o) ≡ pair_at text → Puts (field_named name) value s t → IsTaken s bytes t rest
taken s t bytes text rest name value e f put =
    let w = first_line bytes text rest name value e f in
    record { pair = (name, value); is_pair = w.is_pair; put = put; parts = w.parts }

pub not_taken : (s : Fields) (bytes text rest name value : List ℕ) (which : Which) → (let o : Option Pair = Some (text, rest) in o) ≡ cut 10 bytes → (let o : Option Pair = Some (name, value) in o) ≡ pair_at text → Refuses (field_named name) value s which → IsRefused s bytes (length bytes) which
not_taken s bytes text rest name value which e f refused =
    let w = first_line bytes text rest name value e f in
    inr (inr (record { pair = (name, value); more = rest; is_pair = w.is_pair; refused = refused; parts = w.parts; place = refl }))

takes_push : (ls : List Pair) (p : Pair) (a s t : Fields) → Takes a ls s → IsPair p → Puts (field_named p.0) p.1 s t → Takes a (ls ++ p ∷ []) t
takes_push [] p a s t v is put = (is, t, subst (λ (f : Fields). Puts (field_named p.0) p.1 f t) v put, refl)
takes_push (l ∷ ls) p a s t v is put = (v.0, v.1, v.2, takes_push ls p v.1 s t v.3 is put)

flat_push : (ls : List Pair) (p : Pair) (rest : List ℕ) → flat_map line (ls ++ p ∷ []) ++ rest ≡ flat_map line ls ++ (line p ++ rest)
flat_push [] p rest = ap (λ (t : List ℕ). t ++ rest) (append-nil (line p))
flat_push (l ∷ ls) p rest = regroup l (ls ++ p ∷ []) rest ∙ ap (λ (t : List ℕ). line l ++ t) (flat_push ls p rest) ∙ sym (regroup l ls (line p ++ rest))

pub front_more : (bytes : List ℕ) (s t : Fields) (rest after : List ℕ) → HasFront bytes s rest → IsTaken s rest t after → HasFront bytes t after
front_more bytes s t rest after v w =
    (v.0 ++ w.pair ∷ [], takes_push v.0 w.pair nothing s t v.1 w.is_pair w.put, v.2 ∙ ap (λ (r : List ℕ). flat_map line v.0 ++ r) w.parts ∙ sym (flat_push v.0 w.pair after))

-- ---- all of a node-revision

-- the text of the bytes that begin as a node-revision
pub begun : (bytes : List ℕ) (fields : Fields) (rest : List ℕ) → HasFront bytes fields (10 ∷ rest) → Begins IsNodeText bytes fields rest
begun bytes fields rest v = record {
  front = flat_map line v.0 ++ 10 ∷ [];
  text = record { lines = v.0; taken = v.1; parts = refl };
  parts = v.2 ∙ sym (append_assoc (flat_map line v.0) (10 ∷ []) rest);
}

front_of : (bytes : List ℕ) (fields : Fields) (rest : List ℕ) → Begins IsNodeText bytes fields rest → HasFront bytes fields (10 ∷ rest)
front_of bytes fields rest b =
    let w = b.text in
    (w.lines, w.taken, b.parts ∙ ap (λ (t : List ℕ). t ++ rest) w.parts ∙ append_assoc (flat_map line w.lines) (10 ∷ []) rest)

fields_same : (bytes : List ℕ) (s t : Fields) (a b : List ℕ) → HasFront bytes s (10 ∷ a) → HasFront bytes t (10 ∷ b) → s ≡ t
fields_same bytes s t a b v w = (both_end v.0 w.0 nothing s t a b v.1 w.1 (sym v.2 ∙ w.2)).0

pub means_same : (s : Fields) (m n : NodeRev) → Means s m → Means s n → m ≡ n
means_same s m n v w =
    let id = same_Some m.id n.id (sym v.id ∙ w.id) in
    let kind = same_Some m.kind n.kind (sym v.kind ∙ w.kind) in
    let created_path = same_Some m.created_path n.created_path (sym v.created_path ∙ w.created_path) in
    let predecessor = v.predecessor ∙ sym w.predecessor in
    let count = v.count ∙ sym w.count in
    let text = v.text ∙ sym w.text in
    let props = v.props ∙ sym w.props in
    let copy_from = v.copy_from ∙ sym w.copy_from in
    let copy_root = v.copy_root ∙ sym w.copy_root in
    let fresh = v.fresh_txn_root ∙ sym w.fresh_txn_root in
    let counted = v.mergeinfo_count ∙ sym w.mergeinfo_count in
    let here = v.mergeinfo_here ∙ sym w.mergeinfo_here in
    λ i. record {
      id = id i;
      kind = kind i;
      predecessor = predecessor i;
      count = count i;
      text = text i;
      props = props i;
      created_path = created_path i;
      copy_from = copy_from i;
      copy_root = copy_root i;
      is_fresh_txn_root = fresh i;
      mergeinfo_count = counted i;
      has_mergeinfo = here i;
    }

pub stop_not_read : (bytes : List ℕ) (left : ℕ) (which : Which) (n : NodeRev) → StopsAt nothing bytes left which → IsRead bytes n → ⊥
stop_not_read bytes left which n s w =
    let v = front_of bytes w.fields w.rest w.begins in
    stop_not_end s.lines v.0 nothing s.fields w.fields s.rest w.rest left which s.taken s.refused v.1 (sym s.parts ∙ v.2)

missing_clash : (s : Fields) (which : Which) (n : NodeRev) → IsMissing s which → Means s n → ⊥
missing_clash s which n (NoId e) w = let f = sym e ∙ w.id in absurd cc
missing_clash s which n (NoKind a e) w = let f = sym e ∙ w.kind in absurd cc
missing_clash s which n (NoPath a b e) w = let f = sym e ∙ w.created_path in absurd cc

pub missing_not_read : (bytes : List ℕ) (fields : Fields) (rest : List ℕ) (which : Which) (n : NodeRev) → HasFront bytes fields (10 ∷ rest) → IsMissing fields which → IsRead bytes n → ⊥
missing_not_read bytes fields rest which n v missing w =
    let same = fields_same bytes fields w.fields rest w.rest v (front_of bytes w.fields w.rest w.begins) in
    missing_clash w.fields which n (subst (λ (f : Fields). IsMissing f which) same missing) w.means

-- ---- all of a node-revision, of what was made of its lines

module _ (bytes : List ℕ) (fields : Fields) (rest : List ℕ) (v : HasFront bytes fields (10 ∷ rest)) where
  pub fields_read : AreFull fields → AreRead bytes fields
  fields_read full = record { rest = rest; begins = begun bytes fields rest v; full = full }

  pub fields_mean : (n : NodeRev) → IsRead bytes n → Means fields n
  fields_mean n w = subst (λ (f : Fields). Means f n) (sym (fields_same bytes fields w.fields rest w.rest v (front_of bytes w.fields w.rest w.begins))) w.means

  pub fields_lack : (at : ℕ) (which : Which) → IsMissing fields which → at ≡ length bytes - length rest → IsNodeFault bytes (record { at = at; which = which })
  fields_lack at which missing e = inr (record { fields = fields; rest = rest; begins = begun bytes fields rest v; missing = missing; place = e })

-- the node-revision that fields mean
pub node_read : (bytes : List ℕ) (fields : Fields) (n : NodeRev) → AreRead bytes fields → Means fields n → IsRead bytes n
node_read bytes fields n w means = record { fields = fields; rest = w.rest; begins = w.begins; means = means }

pub read_only : (bytes : List ℕ) (fields : Fields) (rest : List ℕ) (m n : NodeRev) → HasFront bytes fields (10 ∷ rest) → Means fields m → IsRead bytes n → m ≡ n
read_only bytes fields rest m n v means w = means_same fields m n means (fields_mean bytes fields rest v n w)

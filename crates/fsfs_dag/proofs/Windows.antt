-- What a book's answers say of a revision's length, its end and its node-revisions.
use Rattle.std.proofs.Common.{◌≡◌, ℕ, ◌-◌, ◌≤◌, List, ◌++◌, length, take, drop, min, append_assoc, true, Result, Ok, Err, refl, sym, ap, subst, ◌∙◌, arith, inl, inr, zero-add}
use Rattle.std.specs.Prelude.{MatchResult, ◌==◌}
use Rattle.std.proofs.lemmas.Bool.{and_parts}
use Rattle.std.proofs.lemmas.Bool.Decides.{nat_tests}
use Rattle.std.proofs.lemmas.List.{take-take, take_all, take-append-drop, length-take, length-drop}
use Rattle.fsfs_revision.specs.declared.damage.RevOffset.{RevOffset}
use Rattle.fsfs_revision.specs.declared.damage.DamageKind.TheVariants as what
use Rattle.fsfs_revision.specs.declared.wrong.Refusal.{Refusal}
use Rattle.fsfs_revision.specs.declared.wrong.Wrong.{Wrong}
use Rattle.fsfs_revision.specs.declared.wrong.Wrong.TheVariants as wrongs
use Rattle.fsfs_revision.specs.declared.wrong.ReadError.{ReadError}
use Rattle.fsfs_revision.specs.declared.wrong.ReadError.TheVariants as errors
use Rattle.fsfs_revision.specs.Damage.Damages.{place_of, damaged}
use Rattle.fsfs_revision.specs.Damage.Readings.{AndThen, IfWrong, Answers}
use Rattle.fsfs_revision.specs.declared.book.BookFault.TheVariants as books
use Rattle.fsfs_revision.specs.Told.{RevisionBytes, BytesOf, size_read}
use Rattle.fsfs_noderev.specs.NodeRevs.{IsRead}
use Rattle.fsfs_noderev.specs.declared.node_rev.NodeRev.{NodeRev}
use Rattle.fsfs_noderev.specs.declared.node_id.NodeId.{NodeId}
use Rattle.fsfs_noderev.specs.declared.node_id.Place.{Place}
use Rattle.fsfs_noderev.specs.declared.node_id.Place.TheVariants as places
use Rattle.fsfs_revision.specs.Rep.Faults.{IsRefusedFor}
use Rattle.fsfs_revision.specs.declared.trailer.Trailer.{Trailer}
use Rattle.fsfs_revision.specs.Trailers.{EndsWith}
use Rattle.fsfs_revision.specs.Nodes.{Holds, IsNodeAt, is_root, is_ordered, is_own_place, is_directory}
use Rattle.fsfs_revision.specs.Damages.{NodeIn, AsRoot, RootAt}
use Rattle.fsfs_revision.proofs.TrailerLemmas.{from_tail, in_tail}
use Rattle.fsfs_revision.specs.Shows.Reading.{NodeAt, RootOf, offset_of}
use Rattle.fsfs_dag.specs.Told.{LengthOf, WindowAt, EndOf, is_decided}

-- ---- the length of a revision

size_found : (read : Result (List ℕ) Refusal) (n : ℕ) → size_read read ≡ Ok n → (bytes : List ℕ) × (read ≡ Ok bytes) × (n ≡ length bytes)
size_found (Ok bytes) n e = (bytes, refl, cc)
size_found (Err why) n e = absurd cc

size_refused : (read : Result (List ℕ) Refusal) (why : Refusal) → size_read read ≡ Err (books.Refused why) → read ≡ Err why
size_refused (Ok bytes) why e = absurd cc
size_refused (Err other) why e = cc

size_not_short : (read : Result (List ℕ) Refusal) (rev offset : ℕ) → size_read read ≡ Err (books.Short rev offset) → ⊥
size_not_short (Ok bytes) rev offset e = cc
size_not_short (Err other) rev offset e = cc

pub length_found : (look : RevisionBytes) (rev n : ℕ) → size_read (look rev) ≡ Ok n → LengthOf look rev (Ok n)
length_found look rev n e = size_found (look rev) n e

pub length_refused : (look : RevisionBytes) (rev : ℕ) (why : Refusal) → size_read (look rev) ≡ Err (books.Refused why) → LengthOf look rev (Err (wrongs.Refused why))
length_refused look rev why e = (why, size_refused (look rev) why e, refl)

pub length_not_short : (look : RevisionBytes) (rev at offset : ℕ) → size_read (look rev) ≡ Err (books.Short at offset) → LengthOf look rev (Ok 0)
length_not_short look rev at offset e = absurd (size_not_short (look rev) at offset e)

-- ---- a window

abbrev Window : RevisionBytes → RevOffset → ℕ → List ℕ → Result ℕ ReadError → Type 0
Window look at count buffer = Answers (λ n. take n buffer) (WindowAt look at count)

module _ (look : RevisionBytes) (at : RevOffset) (count : ℕ) (buffer : List ℕ) where
  abbrev Seen : List ℕ → Result ℕ ReadError → Type 0
  Seen bytes result = MatchResult result (λ n. take n buffer ≡ take count (drop at.offset bytes)) (IfWrong (λ w. ⊥))

  abbrev Unseen : Refusal → Result ℕ ReadError → Type 0
  Unseen why result = MatchResult result (λ n. ⊥) (IsRefusedFor why)

  window_in : (read : Result (List ℕ) Refusal) (result : Result ℕ ReadError) → look at.rev ≡ read → ((bytes : List ℕ) → read ≡ Ok bytes → Seen bytes result) → ((why : Refusal) → read ≡ Err why → Unseen why result) → Window look at count buffer result
  window_in (Ok bytes) (Ok n) is seen unseen = (bytes, is, seen bytes refl)
  window_in (Ok bytes) (Err (errors.Wrong w)) is seen unseen = absurd (seen bytes refl)
  window_in (Err why) (Ok n) is seen unseen = absurd (unseen why refl)
  window_in (Err why) (Err (errors.Wrong w)) is seen unseen = (why, is, unseen why refl)
  window_in read (Err errors.OutOfMemory) is seen unseen = tt
  window_in read (Err errors.DiskFault) is seen unseen = tt

  pub window_read : (result : Result ℕ ReadError) → ((bytes : List ℕ) → look at.rev ≡ Ok bytes → Seen bytes result) → ((why : Refusal) → look at.rev ≡ Err why → Unseen why result) → Window look at count buffer result
  window_read result seen unseen = window_in (look at.rev) result refl seen unseen

-- no window: no bytes
pub window_stops : {A B Y : Type 0} (first : A → List ℕ) (second : B → Y) (look : RevisionBytes) (at : RevOffset) (count : ℕ) (e : ReadError) (S : List ℕ → Result Y Wrong → Type 0)
    → Answers first (WindowAt look at count) (Err e) → Answers second (AndThen (BytesOf look at.rev) S) (Err e)
window_stops first second look at count (errors.Wrong w) S h = inl h
window_stops first second look at count errors.OutOfMemory S h = tt
window_stops first second look at count errors.DiskFault S h = tt

pub length_stops : {A B Y : Type 0} (first : A → ℕ) (second : B → Y) (look : RevisionBytes) (rev : ℕ) (e : ReadError) (S : List ℕ → Result Y Wrong → Type 0)
    → Answers first (LengthOf look rev) (Err e) → Answers second (AndThen (BytesOf look rev) S) (Err e)
length_stops first second look rev (errors.Wrong w) S h = inl h
length_stops first second look rev errors.OutOfMemory S h = tt
length_stops first second look rev errors.DiskFault S h = tt

-- ---- a node-revision in a window

module _ (at : RevOffset) (bytes seen : List ℕ) (is : seen ≡ take 65536 bytes) where
  window_same : take 65536 seen ≡ take 65536 bytes
  window_same = ap (take 65536) is ∙ take-take 65536 65536 bytes (omega arith)

  holds_in : (v : NodeRev) → Holds seen v → Holds bytes v
  holds_in v h = (subst (λ (xs : List ℕ). IsRead xs v) window_same h.0, h.1)

  holds_back : (v : NodeRev) → Holds bytes v → Holds seen v
  holds_back v h = (subst (λ (xs : List ℕ). IsRead xs v) (sym window_same) h.0, h.1)

  node_in : (r : Result NodeRev Wrong) → NodeIn at seen r → NodeIn at bytes r
  node_in (Ok v) h = (holds_in v h.0, h.1)
  node_in (Err w) (inl a) = inl ((λ h. a.0 (h.0, holds_back h.0 h.1)), a.1)
  node_in (Err w) (inr (held, inl a)) = inr ((held.0, holds_in held.0 held.1), inl ((λ h. a.0 (h.0, (holds_back h.0 h.1.0, h.1.1))), a.1))
  node_in (Err w) (inr (held, inr (node, none))) = absurd none

pub node_seen : (look : RevisionBytes) (at : RevOffset) (seen : List ℕ) (result : Result NodeRev ReadError) → WindowAt look at 65536 (Ok seen) → Answers (λ (v : NodeRev). v) (NodeIn at seen) result → Answers (λ (v : NodeRev). v) (NodeAt look at) result
node_seen look at seen (Ok v) w h = (w.0, w.1, node_in at (drop at.offset w.0) seen w.2 (Ok v) h)
node_seen look at seen (Err (errors.Wrong wrong)) w h = inr (w.0, w.1, node_in at (drop at.offset w.0) seen w.2 (Err wrong) h)
node_seen look at seen (Err errors.OutOfMemory) w h = tt
node_seen look at seen (Err errors.DiskFault) w h = tt

-- ---- a node-revision in a front of the window

-- what is read stays so with more bytes behind it
read_with_more : (bytes more : List ℕ) (v : NodeRev) → IsRead bytes v → IsRead (bytes ++ more) v
read_with_more bytes more v h =
    record {
      fields = h.fields;
      rest = h.rest ++ more;
      begins =
          record {
            front = h.begins.front;
            text = h.begins.text;
            parts = ap (λ (xs : List ℕ). xs ++ more) h.begins.parts ∙ append_assoc h.begins.front h.rest more;
          };
      means = h.means;
    }

module _ (count : ℕ) (fits : count ≤ 65536) (at : RevOffset) (bytes seen : List ℕ) (is : seen ≡ take count bytes) where
  front_length : length seen ≡ min count (length bytes)
  front_length = ap length is ∙ length-take count bytes

  front_whole : take 65536 seen ≡ seen
  front_whole = take_all 65536 seen (omega (arith, fits, front_length))

  front_of_window : take count (take 65536 bytes) ≡ seen
  front_of_window = take-take count 65536 bytes fits ∙ sym is

  front_and_more : seen ++ drop count (take 65536 bytes) ≡ take 65536 bytes
  front_and_more = ap (λ (xs : List ℕ). xs ++ drop count (take 65536 bytes)) (sym front_of_window) ∙ take-append-drop count (take 65536 bytes)

  node_in_front : (v : NodeRev) → IsNodeAt at seen v → IsNodeAt at bytes v
  node_in_front v h =
      let read = read_with_more seen (drop count (take 65536 bytes)) v (subst (λ (xs : List ℕ). IsRead xs v) front_whole h.0.0) in
      ((subst (λ (xs : List ℕ). IsRead xs v) front_and_more read, h.0.1), h.1)

pub node_found_in_front : (look : RevisionBytes) (at : RevOffset) (count : ℕ) (seen : List ℕ) (v : NodeRev) → count ≤ 65536 → WindowAt look at count (Ok seen) → IsNodeAt at seen v → NodeAt look at (Ok v)
node_found_in_front look at count seen v fits w h = (w.0, w.1, node_in_front count fits at (drop at.offset w.0) seen w.2 v h)

pub decided_in_front : (look : RevisionBytes) (at : RevOffset) (count : ℕ) (seen : List ℕ) (r : Result NodeRev ReadError) → count ≤ 65536 → WindowAt look at count (Ok seen) → Answers (λ (v : NodeRev). v) (NodeIn at seen) r → is_decided r ≡ true → Answers (λ (v : NodeRev). v) (NodeAt look at) r
decided_in_front look at count seen (Ok v) fits w h is = node_found_in_front look at count seen v fits w h
decided_in_front look at count seen (Err (errors.Wrong wrong)) fits w h is = absurd cc
decided_in_front look at count seen (Err errors.OutOfMemory) fits w h is = tt
decided_in_front look at count seen (Err errors.DiskFault) fits w h is = tt

-- ---- the end of a revision

-- the last 64 bytes
pub tail_is : (bytes seen : List ℕ) (cut : ℕ) → cut ≡ length bytes - 64 → seen ≡ take 64 (drop cut bytes) → seen ≡ drop cut bytes
tail_is bytes seen cut is window = window ∙ take_all 64 (drop cut bytes) (omega (arith, is, length-drop cut bytes))

pub tail_ends : (bytes seen : List ℕ) (cut : ℕ) (t : Trailer) → cut ≡ length bytes - 64 → seen ≡ take 64 (drop cut bytes) → EndsWith cut seen t → EndsWith 0 bytes t
tail_ends bytes seen cut t is window h =
    from_tail 0 cut bytes t (omega (arith, is)) (subst (λ (n : ℕ). EndsWith n (drop cut bytes) t) (sym (zero-add cut)) (subst (λ (xs : List ℕ). EndsWith cut xs t) (tail_is bytes seen cut is window) h))

pub tail_seen : (bytes seen : List ℕ) (cut : ℕ) (t : Trailer) → cut ≡ length bytes - 64 → seen ≡ take 64 (drop cut bytes) → EndsWith 0 bytes t → EndsWith cut seen t
tail_seen bytes seen cut t is window h =
    subst (λ (xs : List ℕ). EndsWith cut xs t) (sym (tail_is bytes seen cut is window)) (subst (λ (n : ℕ). EndsWith n (drop cut bytes) t) (zero-add cut) (in_tail 0 cut bytes t is h))

pub one_bytes : (read : Result (List ℕ) Refusal) (a b : List ℕ) → read ≡ Ok a → read ≡ Ok b → a ≡ b
one_bytes read a b e f = cc

module _ (look : RevisionBytes) (rev len cut : ℕ) (seen : List ℕ) (size : LengthOf look rev (Ok len)) (is : cut ≡ len - 64) (window : WindowAt look (place_of rev cut) 64 (Ok seen)) where
  same : window.0 ≡ size.0
  same = one_bytes (look rev) window.0 size.0 window.1 size.1

  pub window_part : seen ≡ take 64 (drop cut size.0)
  window_part = window.2 ∙ ap (λ (xs : List ℕ). take 64 (drop cut xs)) same

  pub window_end : cut ≡ length size.0 - 64
  window_end = is ∙ ap (λ (n : ℕ). n - 64) size.2

  pub end_found : (t : Trailer) → EndsWith cut seen t → EndOf look rev (Ok (place_of rev t.root))
  end_found t h = (size.0, size.1, (t, tail_ends size.0 seen cut t window_end window_part h, refl))

  pub end_missing : ((t : Trailer) → EndsWith cut seen t → ⊥) → EndOf look rev (Err (damaged (place_of rev len) what.Trailer))
  end_missing none = inr (size.0, size.1, inl ((λ h. none h.0 (tail_seen size.0 seen cut h.0 window_end window_part h.1)), ap (λ (n : ℕ). damaged (place_of rev n) what.Trailer) size.2))

-- ---- the root of a revision

end_as_root : (look : RevisionBytes) (rev : ℕ) (w : Wrong) → EndOf look rev (Err w) → RootOf look rev (Err w)
end_as_root look rev w h = elim h [ inl a ↦ inl a | inr x ↦ inr (x.0, x.1, inl x.2) ]

pub root_no_end : {A B : Type 0} (first : A → RevOffset) (second : B → NodeRev) (look : RevisionBytes) (rev : ℕ) (e : ReadError) → Answers first (EndOf look rev) (Err e) → Answers second (RootOf look rev) (Err e)
root_no_end first second look rev (errors.Wrong w) h = end_as_root look rev w h
root_no_end first second look rev errors.OutOfMemory h = tt
root_no_end first second look rev errors.DiskFault h = tt

-- the node-revision at the place that the trailer names
module _ (look : RevisionBytes) (rev : ℕ) (at : RevOffset) (end : EndOf look rev (Ok at)) where
  here : (P : RevOffset → Type 0) → P at → P (place_of rev end.2.0.root)
  here P h = subst P end.2.2 h

  in_root : (r : Result NodeRev Wrong) → RootAt (place_of rev end.2.0.root) (drop end.2.0.root end.0) r → RootOf look rev r
  in_root (Ok v) h = (end.0, end.1, (end.2.0, end.2.1, h))
  in_root (Err w) h = inr (end.0, end.1, inr (end.2.0, end.2.1, h))

  node_here : (r : Result NodeRev Wrong) (bytes : List ℕ) → look rev ≡ Ok bytes → NodeIn (place_of rev end.2.0.root) (drop end.2.0.root bytes) r → NodeIn (place_of rev end.2.0.root) (drop end.2.0.root end.0) r
  node_here r bytes e h = subst (λ (xs : List ℕ). NodeIn (place_of rev end.2.0.root) (drop end.2.0.root xs) r) (one_bytes (look rev) bytes end.0 e end.1) h

  no_node : (w : Wrong) → NodeAt look at (Err w) → RootOf look rev (Err w)
  no_node w h =
      elim (here (λ (a : RevOffset). NodeAt look a (Err w)) h) [
        | inl gone ↦ inl gone
        | inr x ↦ in_root (Err w) (inl (node_here (Err w) x.0 x.1 x.2))
      ]

  pub root_no_node : {A B : Type 0} (first : A → NodeRev) (second : B → NodeRev) (e : ReadError) → Answers first (NodeAt look at) (Err e) → Answers second (RootOf look rev) (Err e)
  root_no_node first second (errors.Wrong w) h = no_node w h
  root_no_node first second errors.OutOfMemory h = tt
  root_no_node first second errors.DiskFault h = tt

  pub as_root_of : (v : NodeRev) (r : Result NodeRev Wrong) → NodeAt look at (Ok v) → AsRoot at v r → RootOf look rev r
  as_root_of v r h row = by_answer r (here (λ (a : RevOffset). NodeAt look a (Ok v)) h) (here (λ (a : RevOffset). AsRoot a v r) row)
    where
      by_answer : (r : Result NodeRev Wrong) → NodeAt look (place_of rev end.2.0.root) (Ok v) → AsRoot (place_of rev end.2.0.root) v r → RootOf look rev r
      by_answer (Ok root) x row = in_root (Ok root) (v, node_here (Ok v) x.0 x.1 x.2, row)
      by_answer (Err w) x row = in_root (Err w) (inr (v, node_here (Ok v) x.0 x.1 x.2, row))

  pub no_root : {A B : Type 0} (first : A → NodeRev) (second : B → NodeRev) (v : NodeRev) (e : ReadError) → NodeAt look at (Ok v) → Answers first (AsRoot at v) (Err e) → Answers second (RootOf look rev) (Err e)
  no_root first second v (errors.Wrong w) h row = as_root_of v (Err w) h row
  no_root first second v errors.OutOfMemory h row = tt
  no_root first second v errors.DiskFault h row = tt

-- ---- places

-- a node-revision whose id has the place at which it stands
pub own_place : (at : RevOffset) (v : NodeRev) → is_own_place at v.id.place ≡ true → offset_of v.id.place ≡ at
own_place at v h = by_place v.id.place h
  where
    by_place : (place : Place) → is_own_place at place ≡ true → offset_of place ≡ at
    by_place (places.In txn) e = absurd cc
    by_place (places.At rev offset) e =
        let two = and_parts (rev == at.rev) (offset == at.offset) e in
        let r : rev ≡ at.rev = grind (arith, nat_tests) in
        let o : offset ≡ at.offset = grind (arith, nat_tests) in
        λ i. record { rev = r i; offset = o i }

pub root_own : (at : RevOffset) (v : NodeRev) → is_root at v ≡ true → is_own_place at v.id.place ≡ true
root_own at v h = (and_parts (is_own_place at v.id.place) (is_directory v.kind) h).0

pub placed_root : (at : RevOffset) (v : NodeRev) → is_root at v ≡ true → is_ordered at v ≡ true → is_ordered (offset_of v.id.place) v ≡ true
placed_root at v root h = subst (λ (a : RevOffset). is_ordered a v ≡ true) (sym (own_place at v (root_own at v root))) h

-- what is read at one place is read at another that is the same
pub along : (P : RevOffset → Type 0) (a b : RevOffset) → a ≡ b → P a → P b
along P a b e h = subst P e h

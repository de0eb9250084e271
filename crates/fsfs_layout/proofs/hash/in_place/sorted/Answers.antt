use Rattle.std.proofs.Common.{◌≡◌, ◌∷◌, ◌++◌, [], ℕ, List, sym, ap, ◌∙◌, append_assoc, rules}
use Rattle.std.specs.Borrow.{Bor}
use Rattle.std.specs.Map.Iter.{deref_pair}
use Rattle.std.proofs.lemmas.List.{append-nil, map_push}
use Rattle.std.proofs.lemmas.Map.Iter.{rest_more, rest_all}
use Rattle.fsfs_layout.specs.Hash.Reading.{views}
use Rattle.fsfs_layout.proofs.BuiltMaps.{built_views}
use Rattle.fsfs_layout.proofs.hash.in_place.sorted.Goals as goal

abbrev Two : Type 0
Two = Bor (List ℕ) × Bor (List ℕ)

pub loop-key-init : goal.loop-key-init
loop-key-init c = ap (λ (ps : List Two). views ps ++ views c.into_iter-key-iterator.result) c.in_ok-pairs.ensures.items ∙ ap views (search rules)
    ∙ built_views c.in_ok-map.map c.args.found.items c.in_ok-map.ensures

pub loop-key-preserved : goal.loop-key-preserved
loop-key-preserved c =
    let x : Two = (c.in-Some.key.now, c.in-Some.value.now) in
    let left : c.loop-key.key-iterator ≡ x ∷ c.next.new.self = rest_more deref_pair c.loop-key.key-iterator c.next.new.self c.next.result (c.in-Some.key, c.in-Some.value) c.in-Some.is c.next.ensures.steps in
    ap (λ (ps : List Two). views ps ++ views c.next.new.self) c.in_ok-push.ensures.items
    ∙ ap (λ (ps : List (List ℕ × List ℕ)). ps ++ views c.next.new.self) (map_push (λ (e : Two). (e.0.now, e.1.now)) c.loop-key.pairs.items x)
    ∙ append_assoc (views c.loop-key.pairs.items) ((x.0.now, x.1.now) ∷ []) (views c.next.new.self)
    ∙ ap (λ (ps : List Two). views c.loop-key.pairs.items ++ views ps) (sym left)
    ∙ c.loop-key.invariant

pub returns : goal.returns
returns c =
    let none : c.loop-key.key-iterator ≡ [] = rest_all deref_pair c.loop-key.key-iterator c.next.new.self c.next.result c.in-None.is c.next.ensures.steps in
    sym (append-nil (views c.loop-key.pairs.items))
    ∙ ap (λ (ps : List Two). views c.loop-key.pairs.items ++ views ps) (sym none)
    ∙ c.loop-key.invariant

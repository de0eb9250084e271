use Rattle.std.proofs.Common.{◌≡◌, ◌+◌, ◌∙◌, [], ◌∷◌, ◌++◌, take, ap, sym, get_or, ℕ, List}
use Rattle.std.specs.Borrow.{Bor}
use Rattle.std.proofs.lemmas.List.{map_more, take_all}
use Rattle.fsfs_layout.specs.Hash.Reading.{views}
use Rattle.fsfs_layout.specs.Hash.Dump.{put_all}
use Rattle.fsfs_layout.proofs.BuiltMaps.{built_pairs, pairs_more}
use Rattle.fsfs_layout.proofs.hash.dump.gather.Goals as goal

pub loop-e-preserved : goal.loop-e-preserved
loop-e-preserved c =
    let d : Bor (List ℕ) × Bor (List ℕ) = (record { ref_ptr = (0, 0); now = [] }, record { ref_ptr = (0, 0); now = [] }) in
    let x = get_or c.args.found.now c.loop-e.e-index d in
    let more : views (take (c.loop-e.e-index + 1) c.args.found.now) ≡ views (take c.loop-e.e-index c.args.found.now) ++ (x.0.now, x.1.now) ∷ [] = map_more (λ (e : Bor (List ℕ) × Bor (List ℕ)). (e.0.now, e.1.now)) c.args.found.now c.loop-e.e-index d c.loop-e-test.true in
    pairs_more c.loop-e.pairs.items c.push.new.self.items (views (take c.loop-e.e-index c.args.found.now)) c.in_ok-key.key c.in_ok-value.value (x.0.now, x.1.now)
    c.in_ok-push.ensures.items c.loop-e.invariant c.in_ok-key.ensures.items c.in_ok-value.ensures.items
    ∙ sym more

pub returns : goal.returns
returns c =
    let all : take c.loop-e.e-index c.args.found.now ≡ c.args.found.now = take_all c.loop-e.e-index c.args.found.now c.loop-e-test.false in
    c.from.ensures ∙ built_pairs c.in_ok-map.map c.loop-e.pairs.items c.in_ok-map.ensures ∙ ap (put_all []) (c.loop-e.invariant ∙ ap views all)

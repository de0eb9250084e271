use Rattle.std.proofs.Common.{◌≡◌, ◌++◌, [], sym, ap, subst, ◌∙◌, List, ℕ}
use Rattle.std.specs.Prelude.{codes}
use Rattle.std.specs.List.{flat_map}
use Rattle.fsfs_layout.specs.Hash.Dump.{Entries, pair_text, dump_text, put_all}
use Rattle.fsfs_layout.proofs.PutPairs.{pairs_of, ascending, put_all-ascending}
use Rattle.fsfs_layout.proofs.hash.writing.write_hash.Goals as goal

pub returns : goal.returns
returns c =
    let text : c.extend_from_slice.new.self.items ≡ dump_text c.args.pairs.now = c.in_ok-extend_from_slice.ensures.items ∙ ap (λ (t : List ℕ). t ++ codes "END\n") (c.in_ok-put_pairs.ensures.text ∙ ap (λ (t : List ℕ). t ++ flat_map pair_text c.args.pairs.now) c.new-out.ensures.items) in
    let whole = subst (λ (t : List ℕ). Entries t c.args.pairs.now) (sym text) c.in_ok-put_pairs.ensures.entries in
    let same : put_all [] (pairs_of c.as_map-map.result.now) ≡ pairs_of c.as_map-map.result.now = put_all-ascending (pairs_of c.as_map-map.result.now) (ascending c.as_map-map.result.now.entries c.len-count.ensures.ordered) in
    record {
      dump = record {
        inner = c.args.pairs.now;
        inner_is = whole;
        value_is = sym (subst (λ (p : List (List ℕ × List ℕ)). put_all [] p ≡ p) c.as_map-map.ensures same);
      };
      in_order = whole;
      text = text;
    }

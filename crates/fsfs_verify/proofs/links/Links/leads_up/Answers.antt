use Rattle.std.proofs.Common.{◌≡◌, ◌-◌, ◌++◌, ◌∷◌, ℕ, List, [], length, take, map, true, false, sym, ap, subst, ◌∙◌, arith, rules}
use Rattle.std.specs.Prelude.{◌==◌, Option, Some, None}
use Rattle.std.specs.String.{string_bytes}
use Rattle.std.proofs.lemmas.List.{length-take, nil_from_length}
use Rattle.fsfs_base.specs.Paths.{Path, PathName}
use Rattle.fsfs_dag.proofs.IdLemmas.{equal, itself}
use Rattle.fsfs_verify.specs.LinksUp.{link_at, alone_by, LeadsUp}
use Rattle.fsfs_verify.proofs.LinkLemmas.{last_apart, leads_on, leads_back, leads_nowhere, leads_to_root, root_leads}
use Rattle.fsfs_verify.proofs.links.Links.leads_up.Goals as goal

pub returns-in_default-dir_alone-clause-other : goal.returns-in_default-dir_alone-clause-other
returns-in_default-dir_alone-clause-other c = λ no up.
    let self = c.args.self.now in
    let left = c.up.left.now in
    let last = c.last-item.result in
    let split = last_apart string_bytes left last c.in-len1-up.len_at_least c.last-item.is in
    let led : LeadsUp self c.args.root c.up.at (map string_bytes (take (length left - 1) left) ++ string_bytes last ∷ []) = subst (λ (p : Path). LeadsUp self c.args.root c.up.at p) split (c.up.invariant.led up) in
    let none : alone_by c.as_str.result.now (link_at self c.up.at) ≡ None = sym c.dir_alone.ensures ∙ c.in_default-dir_alone.is in
    leads_nowhere self c.args.root c.up.at (map string_bytes (take (length left - 1) left)) (string_bytes last) (ap (λ (n : PathName). alone_by n (link_at self c.up.at)) (sym c.as_str.ensures.value) ∙ none) led

pub up-preserved : goal.up-preserved
up-preserved c =
    let self = c.args.self.now in
    let left = c.up.left.now in
    let last = c.last-item.result in
    let front = map string_bytes (take (length left - 1) left) in
    let split = last_apart string_bytes left last c.in-len1-up.len_at_least c.last-item.is in
    let some : alone_by c.as_str.result.now (link_at self c.up.at) ≡ Some c.in-Some.dir = sym c.dir_alone.ensures ∙ c.in-Some.is in
    let found : alone_by (string_bytes last) (link_at self c.up.at) ≡ Some c.in-Some.dir = ap (λ (n : PathName). alone_by n (link_at self c.up.at)) (sym c.as_str.ensures.value) ∙ some in
    record {
      within = omega (arith, length-take (length left - 1) left, c.up.invariant.within);
      leads = λ up. c.up.invariant.leads (subst (λ (p : Path). LeadsUp self c.args.root c.up.at p) (sym split) (leads_on self c.args.root c.up.at front (string_bytes last) c.in-Some.dir found up));
      led = λ up. leads_back self c.args.root c.up.at front (string_bytes last) c.in-Some.dir found (subst (λ (p : Path). LeadsUp self c.args.root c.up.at p) split (c.up.invariant.led up));
    }

pub returns-clause-yes : goal.returns-clause-yes
returns-clause-yes c = λ same.
    let none : c.up.left.now ≡ [] = nil_from_length c.up.left.now (search rules) in
    c.up.invariant.leads (root_leads c.args.self.now c.args.root c.up.at (map string_bytes c.up.left.now) (ap (map string_bytes) none) (equal c.up.at c.args.root same))

pub returns-clause-other : goal.returns-clause-other
returns-clause-other c = λ no up.
    let none : c.up.left.now ≡ [] = nil_from_length c.up.left.now (search rules) in
    let same : c.up.at ≡ c.args.root = leads_to_root c.args.self.now c.args.root c.up.at (map string_bytes c.up.left.now) (ap (map string_bytes) none) (c.up.invariant.led up) in
    let yes = subst (λ (n : ℕ). (c.up.at == n) ≡ true) same (itself c.up.at) in
    let e : true ≡ false = sym yes ∙ no in
    cc

use Rattle.std.proofs.Common.{◌≡◌, ◌∙◌, ℕ, List, [], ◌∷◌, ◌++◌, Option, Some, None, refl, ap, sym, subst}
use Rattle.std.specs.Prelude.{is_some, option_map}
use Rattle.std.specs.BTreeMap.{insert_entry, is_at}
use Rattle.std.specs.Map.{lookup}
use Rattle.std.specs.String.{string_bytes}
use Rattle.fsfs_revision.specs.Shows.Reading.{Pairs}
use Rattle.fsfs_revision.proofs.PairLookups.{text_cmp}
use Rattle.fsfs_dag.specs.Entries.{LeadTo, HasFirsts}
use Rattle.fsfs_dag.specs.Views.{entry_value}
use Rattle.fsfs_dag.proofs.EntryPairs.{lead_kept, lead_more}
use Rattle.fsfs_dag.proofs.FirstEntries.{kept_first, put_first_in}
use Rattle.fsfs_dag.proofs.entry_lists.put_first.Goals as goal

some_map : {T U : Type 0} (f : T → U) (o : Option T) → is_some (option_map f o) ≡ is_some o
some_map f None = refl
some_map f (Some x) = refl

pub returns-then-is_some-clause-lead : goal.returns-then-is_some-clause-lead
returns-then-is_some-clause-lead c = λ earlier w.
    let ps = c.args.pairs.now in
    let name : c.as_bytes-name.result.now ≡ string_bytes c.args.entry.now.name = c.as_bytes-name.ensures.value ∙ c.as_str.ensures.value in
    lead_kept earlier (entry_value c.args.entry.now) ps w
    (ap (λ (k : List ℕ). is_some (lookup (is_at (text_cmp k)) ps)) (sym name) ∙ sym (ap is_some c.get.ensures) ∙ some_map _ c.get.result ∙ sym c.is_some.ensures ∙ c.if-is_some.true)

pub returns-then-is_some-clause-firsts : goal.returns-then-is_some-clause-firsts
returns-then-is_some-clause-firsts c = λ earlier w.
    let ps = c.args.pairs.now in
    let name : c.as_bytes-name.result.now ≡ string_bytes c.args.entry.now.name = c.as_bytes-name.ensures.value ∙ c.as_str.ensures.value in
    kept_first earlier (entry_value c.args.entry.now) ps w
    (ap (λ (k : List ℕ). is_some (lookup (is_at (text_cmp k)) ps)) (sym name) ∙ sym (ap is_some c.get.ensures) ∙ some_map _ c.get.result ∙ sym c.is_some.ensures ∙ c.if-is_some.true)

pub returns-clause-lead : goal.returns-clause-lead
returns-clause-lead c = λ earlier w.
    let ps = c.args.pairs.now in
    let name : c.as_bytes-name.result.now ≡ string_bytes c.args.entry.now.name = c.as_bytes-name.ensures.value ∙ c.as_str.ensures.value in
    let put : c.set.new.self ≡ insert_entry text_cmp ps (string_bytes c.args.entry.now.name) c.in_ok-value.value.items
    = c.in_ok-set.ensures.ok ∙ ap (λ (k : List ℕ). insert_entry text_cmp ps k c.in_ok-value.value.items) (c.in_ok-key.ensures.items ∙ name) in
    subst (λ (qs : Pairs). LeadTo (earlier ++ entry_value c.args.entry.now ∷ []) qs) (sym put)
    (lead_more earlier (entry_value c.args.entry.now) ps c.in_ok-value.value.items w
    (ap (λ (k : List ℕ). is_some (lookup (is_at (text_cmp k)) ps)) (sym name) ∙ sym (ap is_some c.get.ensures) ∙ some_map _ c.get.result ∙ sym c.is_some.ensures ∙ c.if-is_some.false)
    c.in_ok-value.ensures.told)

pub returns-clause-firsts : goal.returns-clause-firsts
returns-clause-firsts c = λ earlier w.
    let ps = c.args.pairs.now in
    let name : c.as_bytes-name.result.now ≡ string_bytes c.args.entry.now.name = c.as_bytes-name.ensures.value ∙ c.as_str.ensures.value in
    let put : c.set.new.self ≡ insert_entry text_cmp ps (string_bytes c.args.entry.now.name) c.in_ok-value.value.items
    = c.in_ok-set.ensures.ok ∙ ap (λ (k : List ℕ). insert_entry text_cmp ps k c.in_ok-value.value.items) (c.in_ok-key.ensures.items ∙ name) in
    subst (λ (qs : Pairs). HasFirsts (earlier ++ entry_value c.args.entry.now ∷ []) qs) (sym put)
    (put_first_in earlier (entry_value c.args.entry.now) ps c.in_ok-value.value.items c.in_ok-value.ensures.short w
    (ap (λ (k : List ℕ). is_some (lookup (is_at (text_cmp k)) ps)) (sym name) ∙ sym (ap is_some c.get.ensures) ∙ some_map _ c.get.result ∙ sym c.is_some.ensures ∙ c.if-is_some.false)
    c.in_ok-value.ensures.value)

use Rattle.std.proofs.Common.{◌≡◌, ◌∙◌, ◌-◌, ℕ, List, take, length, true, false, sym, ap, arith}
use Rattle.fsfs_base.specs.Fields.TxnNames.{txn_name_at}
use Rattle.fsfs_disk.specs.Transactions.Txns.{pair_of}
use Rattle.fsfs_disk.proofs.Listed.{entry_read, entry_other, entry_none}
use Rattle.fsfs_disk.proofs.transactions.listing.txn_of.Goals.{in_default-via-in-Some+else-is, in_default-via-in_default}
use Rattle.fsfs_disk.proofs.transactions.listing.txn_of.Goals as goal

pub returns-in-Some : goal.returns-in-Some
returns-in-Some c =
    let entry = c.args.entry.now in
    let text : c.as_bytes-text.result.now ≡ entry = c.as_bytes-text.ensures.value ∙ c.as_str.ensures.text in
    let count : c.saturating_sub.result ≡ length entry - 4 = omega (arith, c.saturating_sub.ensures, ap (λ (t : List ℕ). length t) text) in
    entry_read entry (pair_of c.in-Some.name)
    (sym (c.in-Some.ensures ∙ ap (λ t. txn_name_at (take c.saturating_sub.result t)) text ∙ ap (λ k. txn_name_at (take k entry)) count))
    (sym c.txn_entry.ensures ∙ c.is.ensures.0 c.if-is.true)

pub returns-in_default : goal.returns-in_default
returns-in_default c =
    let entry = c.args.entry.now in
    let text : c.as_bytes-text.result.now ≡ entry = c.as_bytes-text.ensures.value ∙ c.as_str.ensures.text in
    let count : c.saturating_sub.result ≡ length entry - 4 = omega (arith, c.saturating_sub.ensures, ap (λ (t : List ℕ). length t) text) in
    elim c.in_default.branch [
      | in_default-via-in-Some+else-is w ↦
          entry_other entry (pair_of w.in-Some.name)
          (sym (w.in-Some.ensures ∙ ap (λ t. txn_name_at (take c.saturating_sub.result t)) text ∙ ap (λ k. txn_name_at (take k entry)) count))
          (λ e. let h : true ≡ false = sym (w.is.ensures.1 (w.txn_entry.ensures ∙ e)) ∙ w.if-is.false in cc)
      | in_default-via-in_default w ↦ entry_none entry (sym (w.in_default.ensures ∙ ap (λ t. txn_name_at (take c.saturating_sub.result t)) text ∙ ap (λ k. txn_name_at (take k entry)) count))
    ]

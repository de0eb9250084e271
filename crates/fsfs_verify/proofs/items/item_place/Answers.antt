use Rattle.std.proofs.Common.{◌≡◌, ◌≤◌, ◌+◌, ℕ, List, length, ap, ◌∙◌, arith}
use Rattle.fsfs_stands.specs.Items.{DataOf}
use Rattle.fsfs_verify.proofs.ItemPlaces.{begins_found}
use Rattle.fsfs_verify.proofs.items.item_place.Goals as goal

pub returns-in-Some-clause-told : goal.returns-in-Some-clause-told
returns-in-Some-clause-told g c = λ look items wrong knows read item is.
    let «data» = c.in_ok-data.data in
    let found = c.in_ok-data.ensures.told look (knows c.args.rev (omega arith)) in
    let bytes : c.deref.result.now ≡ «data».bytes.items = c.deref.ensures.value in
    let r = c.in-Some.ensures in
    let at : c.in-Some.offset + length c.in_ok-rest.rest.now ≡ «data».begins + length «data».bytes.items = omega (arith, r.1, c.len.ensures, ap length bytes, c.deref.ensures.len, c.in_ok-rest.ensures.within) in
    begins_found look c.args.rev items wrong read «data».begins «data».bytes.items found c.args.before c.in_ok-rest.rest.now
    (λ earlier front tail parts are count. c.in_ok-rest.ensures.behind earlier front tail (bytes ∙ parts) are count) c.in-Some.offset at item is

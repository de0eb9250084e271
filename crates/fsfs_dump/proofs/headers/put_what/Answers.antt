use Rattle.std.proofs.Common.{ℕ, List, ◌++◌, ap}
use Rattle.std.specs.Prelude.{codes}
use Rattle.fsfs_dump.specs.Records.{header, dump_path, kind_word, action_word, source_headers}
use Rattle.fsfs_dump.specs.Readings.{source_of}
use Rattle.fsfs_dump.proofs.Appends.{then_more, put_as}
use Rattle.fsfs_dump.proofs.headers.put_what.Goals as goal

pub returns : goal.returns
returns c =
    let item = c.args.item.now in
    let old = c.args.lines.now.items in
    let a = c.put_path.new.lines.items in
    let b = c.put_header.new.lines.items in
    let d = c.put_header-2.new.lines.items in
    let e = c.put_source.new.lines.items in
    let Kind : List ℕ → List ℕ = λ w. header (codes "Node-kind") w in
    let Verb : List ℕ → List ℕ = λ w. header (codes "Node-action") w in
    let path = header (codes "Node-path") (dump_path item.path) in
    let kind = put_as a (Kind c.word_of.result.now) (Kind (kind_word c.args.kind)) b c.in_ok-put_header.ensures (ap Kind c.word_of.ensures) in
    let action = put_as b (Verb c.verb_of.result.now) (Verb (action_word item.action)) d c.in_ok-put_header-2.ensures (ap Verb c.verb_of.ensures) in
    let two = then_more old path a (Kind (kind_word c.args.kind)) b c.in_ok-put_path.ensures kind in
    let three = then_more old (path ++ Kind (kind_word c.args.kind)) b (Verb (action_word item.action)) d two action in
    then_more old (path ++ Kind (kind_word c.args.kind) ++ Verb (action_word item.action)) d (source_headers (source_of item)) e three c.in_ok-put_source.ensures

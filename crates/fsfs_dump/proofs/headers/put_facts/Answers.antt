use Rattle.std.proofs.Common.{◌≡◌, ◌++◌, sym, subst}
use Rattle.std.specs.Prelude.{Option, option_map, codes}
use Rattle.hex.specs.Hex.{encode_lower}
use Rattle.fsfs_dump.specs.declared.facts.Facts.{Facts}
use Rattle.fsfs_dump.specs.Records.{header, number_header, text_headers}
use Rattle.fsfs_dump.specs.Views.{facts_value}
use Rattle.fsfs_dump.proofs.Appends.{then_more}
use Rattle.fsfs_dump.proofs.headers.put_facts.Goals as goal

pub returns-in_ok-put_sha1-in-Some : goal.returns-in_ok-put_sha1-in-Some
returns-in_ok-put_sha1-in-Some c =
    let old = c.args.lines.now.items in
    let facts = c.in-Some.facts in
    let a = c.put_number.new.lines.items in
    let b = c.put_md5.new.lines.items in
    let d = c.put_sha1.new.lines.items in
    let size = number_header (codes "Text-content-length") facts.size in
    let md5 = header (codes "Text-content-md5") (encode_lower facts.md5.bytes) in
    let sha1 = header (codes "Text-content-sha1") (encode_lower facts.sha1.bytes) in
    let two = then_more old size a md5 b c.in_ok-put_number-in-Some.ensures c.in_ok-put_md5-in-Some.ensures in
    let Goal : Option Facts → Type 0 = λ o. d ≡ old ++ text_headers (option_map facts_value o) in
    subst Goal (sym c.in-Some.is) (then_more old (size ++ md5) b sha1 d two c.in_ok-put_sha1-in-Some.ensures)

use Rattle.std.proofs.Common.{◌≡◌, ◌∙◌, ◌++◌, ◌∷◌, [], List, ℕ, map, ap}
use Rattle.std.specs.Prelude.{codes}
use Rattle.fsfs_base.specs.Files.{NamedFile}
use Rattle.fsfs_layout.specs.CreatedFiles.{identifier_text, date_properties}
use Rattle.fsfs_create.specs.NewFiles.{named}
use Rattle.fsfs_create.proofs.InitialLemmas.{added, zero_line, zero_line36, first_name}
use Rattle.fsfs_create.proofs.initial.created_files.Goals as goal
use Rattle.fsfs_base.specs.FirstRevision.{first_bytes}

pub returns : goal.returns
returns c =
    let none : map named c.new-files.result.items ≡ [] = ap (map named) c.new-files.ensures.items in
    let w1 : List NamedFile = [] ++ (codes "format", codes "5\n") ∷ [] in
    let k1 = added _ _ [] _ _ (codes "format") (codes "5\n") c.in_ok-add.ensures none c.name.ensures c.in_ok-version.ensures.items in
    let w2 : List NamedFile = w1 ++ (codes "db/fs-type", codes "fsfs\n") ∷ [] in
    let k2 = added _ _ w1 _ _ (codes "db/fs-type") (codes "fsfs\n") c.in_ok-add-2.ensures k1 c.name-2.ensures c.in_ok-fs_type.ensures.items in
    let w3 : List NamedFile = w2 ++ (codes "db/uuid", identifier_text c.args.identifier ++ codes "\n") ∷ [] in
    let k3 = added _ _ w2 _ _ (codes "db/uuid") (identifier_text c.args.identifier ++ codes "\n") c.in_ok-add-3.ensures k2 c.name-3.ensures (c.in_ok-uuid.ensures.text ∙ ap (λ (t : List ℕ). t ++ 10 ∷ []) c.identifier_of.ensures) in
    let w4 : List NamedFile = w3 ++ (codes "db/current", codes "0\n") ∷ [] in
    let k4 = added _ _ w3 _ _ (codes "db/current") (codes "0\n") c.in_ok-add-4.ensures k3 c.name-4.ensures (zero_line _ c.in_ok-current.ensures.text) in
    let w5 : List NamedFile = w4 ++ (codes "db/txn-current", codes "0\n") ∷ [] in
    let k5 = added _ _ w4 _ _ (codes "db/txn-current") (codes "0\n") c.in_ok-add-5.ensures k4 c.name-5.ensures (zero_line36 _ c.in_ok-txn_current.ensures) in
    let w6 : List NamedFile = w5 ++ (codes "db/min-unpacked-rev", codes "0\n") ∷ [] in
    let k6 = added _ _ w5 _ _ (codes "db/min-unpacked-rev") (codes "0\n") c.in_ok-add-6.ensures k5 c.name-6.ensures (zero_line _ c.in_ok-floor.ensures.text) in
    let w7 : List NamedFile = w6 ++ (codes "db/write-lock", []) ∷ [] in
    let k7 = added _ _ w6 _ _ (codes "db/write-lock") ([]) c.in_ok-add-7.ensures k6 c.name-7.ensures c.new.ensures.items in
    let w8 : List NamedFile = w7 ++ (codes "db/txn-current-lock", []) ∷ [] in
    let k8 = added _ _ w7 _ _ (codes "db/txn-current-lock") ([]) c.in_ok-add-8.ensures k7 c.name-8.ensures c.new-2.ensures.items in
    let w9 : List NamedFile = w8 ++ (codes "db/revs/0/0", first_bytes) ∷ [] in
    let k9 = added _ _ w8 _ _ (codes "db/revs/0/0") (first_bytes) c.in_ok-add-9.ensures k8 (first_name (codes "db/revs") _ c.args.layout c.requires.packs.sharded c.name-9.ensures) c.in_ok-revision.ensures in
    added _ _ w9 _ _ (codes "db/revprops/0/0") (date_properties c.args.date.now) c.in_ok-add-10.ensures k9 (first_name (codes "db/revprops") _ c.args.layout c.requires.packs.sharded c.name-10.ensures) c.in_ok-props.ensures

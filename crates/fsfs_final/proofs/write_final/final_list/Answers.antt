use Rattle.std.proofs.Common.{◌≡◌, ◌∙◌, List, Option, Some, None, map, sym, ap, subst}
use Rattle.std.specs.Prelude.{option_map}
use Rattle.fsfs_dag.specs.declared.directory.DirEntry.{DirEntry as Listed}
use Rattle.fsfs_dag.specs.Views.{entry_values}
use Rattle.fsfs_dag.specs.declared.listing.entries.Listing.{Listing}
use Rattle.fsfs_dag.specs.Listing.Views.{listed}
use Rattle.fsfs_dag.specs.Entries.{ListsEntries}
use Rattle.fsfs_revision.specs.Shows.Reading.{DirEntry}
use Rattle.fsfs_final.specs.Pieces.Naming.{ids_of, final_entry}
use Rattle.fsfs_final.specs.Putting.{AreFinalPairs, AreUtf8}
use Rattle.fsfs_final.proofs.NameLemmas.{names_utf8}
use Rattle.fsfs_final.proofs.write_final.final_list.Goals as goal

abbrev values : Option Listing → Option (List DirEntry)
values o = option_map listed o

pub returns-in-None : goal.returns-in-None
returns-in-None c = record {
  list = None;
  listed = subst (λ (o : Option (List DirEntry)). AreFinalPairs (ids_of c.args.ids.now) c.args.kept.now.node.created_path o None) (sym (ap values c.in-None.is)) tt;
  texts = tt;
}

pub returns-in_ok-text-in-Some : goal.returns-in_ok-text-in-Some
returns-in_ok-text-in-Some c =
    let ids = ids_of c.args.ids.now in
    let dir = c.args.kept.now.node.created_path in
    let all = c.in_ok-all-in-Some.all.items in
    let is : entry_values all ≡ listed c.in-Some.entries = c.in_ok-all-in-Some.ensures in
    let named : entry_values c.as_slice-in-Some.result.now ≡ map (final_entry ids dir) (listed c.in-Some.entries)
    = ap entry_values c.as_slice-in-Some.ensures.value ∙ c.in_ok-named-in-Some.ensures ∙ ap (λ (l : List Listed). map (final_entry ids dir) (entry_values l)) c.as_slice.ensures.value ∙ ap (λ (l : List DirEntry). map (final_entry ids dir) l) is in
    let text = c.in_ok-text-in-Some.ensures in
    record {
      list = Some text.pairs;
      listed = subst (λ (o : Option (List DirEntry)). AreFinalPairs ids dir o (Some text.pairs)) (sym (ap values c.in-Some.is))
          (subst (λ (l : List DirEntry). ListsEntries l text.pairs) named text.lists, subst (λ (l : List DirEntry). AreUtf8 l) is (names_utf8 all));
      texts = record { text_is = text.text_is; dump = text.dump; in_order = text.in_order };
    }

-- What an opening reads of the small files: their first bytes, which are all that their formats ask for.
use Rattle.std.specs.Prelude.{List, ℕ, take, option_map}
use Rattle.fsfs_layout.specs.Opening.{SmallTexts}

abbrev pub first_texts : SmallTexts → SmallTexts
first_texts s = record {
  format = option_map (λ (bytes : List ℕ). take 64 bytes) s.format;
  fs_type = take 64 s.fs_type;
  uuid = take 64 s.uuid;
  current = take 64 s.current;
  min_unpacked_rev = take 64 s.min_unpacked_rev;
  txn_current = take 64 s.txn_current;
}

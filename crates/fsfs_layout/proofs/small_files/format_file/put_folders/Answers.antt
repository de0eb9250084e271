use Rattle.std.proofs.Common.{arith}
use Rattle.fsfs_layout.proofs.Writing.{shards_put, folder_put}
use Rattle.fsfs_layout.proofs.small_files.format_file.put_folders.Goals as goal

pub returns-in_ok-extend_from_slice-in-Shards : goal.returns-in_ok-extend_from_slice-in-Shards
returns-in_ok-extend_from_slice-in-Shards c =
    shards_put c.args.folders c.in-Shards.size c.args.out.now.items c.extend_from_slice.new.self.items c.put_decimal.new.out.items c.put_decimal.result c.in-Shards.is (omega arith) c.in_ok-extend_from_slice-in-Shards.ensures.items c.put_decimal.ensures

pub returns-in-OneFolder : goal.returns-in-OneFolder
returns-in-OneFolder c = folder_put c.args.folders c.args.out.now.items c.extend_from_slice-in-OneFolder.new.self.items c.extend_from_slice-in-OneFolder.result c.in-OneFolder.is c.extend_from_slice-in-OneFolder.ensures.items

use Rattle.fsfs_fetch.proofs.FileLemmas.{size_of_result}
use Rattle.fsfs_fetch.proofs.files.file_len.Goals as goal

pub returns-clause-told : goal.returns-clause-told
returns-clause-told g c = λ file s.
    size_of_result (g.R.Reads.view c.args.reads.now) (g.R.Reads.view c.size_at.new.reads) c.args.name.now file c.size_at.result c.size_at.ensures.later s c.size_at.ensures.length c.size_at.ensures.failed

use Rattle.fsfs_draft.proofs.SettingLaw.{settings_are_edits}
use Rattle.fsfs_draft.proofs.drafts_laws.settings_are_edits.Goals as goal

pub returns : goal.returns
returns c = settings_are_edits

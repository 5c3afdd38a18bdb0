use Rattle.fts_client_laws.proofs.Answering.{says_job}
use Rattle.fts_client_laws.proofs.submitting.replies_name_the_job.Goals as goal

pub returns : goal.returns
returns c = λ document sid vo entries writer now given legal name.
    says_job c.tables_are_well_formed.ensures.formed document sid vo given entries writer now legal name

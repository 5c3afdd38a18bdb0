-- Reading URLs: what fts_jobdoc says of those of a job, for those that are asked for.
use Rattle.std.proofs.Common.{◌≡◌, inl, inr, List, Option, Some, None, Result, Ok, Err, refl, ap, sym}
use Rattle.fts_tables.specs.declared.places.Place.{Place}
use Rattle.fts_tables.specs.FirstFault.{unless}
use Rattle.fts_joburl.specs.declared.fault.UrlFault.{UrlFault}
use Rattle.fts_jobdoc.specs.Checks.{Gives}
use Rattle.fts_jobdoc.specs.Ends.{url_refused as job_refused}
use Rattle.fts_jobdoc.specs.declared.fault.DocFault.TheVariants.{BadUrl as JobUrl}
use Rattle.fts_delete.specs.declared.document.DeleteDocFault.{DeleteDocFault}
use Rattle.fts_delete.specs.declared.document.DeleteDocFault.TheVariants.{BadUrl}
use Rattle.fts_delete.specs.Documents.{Reads, url_refused}

-- a value that was read, or that memory ran out: the second is no value
pub gives-Ok : {T : Type 0} (expected : Result T DeleteDocFault) (value : T) → Reads (Ok value) expected → expected ≡ Ok value
gives-Ok expected value (inl e) = sym e
gives-Ok expected value (inr e) = absurd (cc)

-- places that a job has were read
pub all_kept : (fault : Option UrlFault) (places found : List Place) → Gives (Ok found) (unless (job_refused fault) places)
    → Reads (Ok found) (unless (url_refused fault) places)
all_kept None places found (inl e) = let same : found ≡ places = cc in inl (ap Ok same)
all_kept (Some fault) places found (inl e) = absurd cc
all_kept fault places found (inr e) = absurd cc

-- the URL that a job is refused for is the first that is refused
pub refused_as : (fault : Option UrlFault) (places : List Place) (f : UrlFault) → Gives (Err (JobUrl f)) (unless (job_refused fault) places)
    → Reads (Err (BadUrl f)) (unless (url_refused fault) places)
refused_as None places f (inl e) = absurd cc
refused_as (Some first) places f (inl e) = let same : f ≡ first = cc in inl (ap (λ g. Err (BadUrl g)) same)
refused_as fault places f (inr e) = absurd cc

-- all texts were URLs
pub all_read : (fault : Option UrlFault) (places found : List Place) → unless (url_refused fault) places ≡ Ok found → (url_refused fault ≡ None) × (places ≡ found)
all_read None places found e = (refl, cc)
all_read (Some fault) places found e = absurd (cc)

-- one wasn't
pub none_read : (fault : Option UrlFault) (places : List Place) (why : DeleteDocFault) → Err why ≡ unless (url_refused fault) places → url_refused fault ≡ Some why
none_read None places why e = absurd (cc)
none_read (Some fault) places why e = cc

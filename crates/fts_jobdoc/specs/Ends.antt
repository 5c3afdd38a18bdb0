-- Where the files of a document come from and go to: the places that their URLs name, and the rules on them.
use Rattle.std.specs.Prelude.{ℕ, Bool, false, not, ◌||◌, List, [], ◌∷◌, ◌++◌, map, Option, Some, None, option_map, Result, Ok, Err, codes}
use Rattle.std.specs.List.{list_any, list_all, filter_map, flat_map}
use Rattle.serde_json.specs.Data.{Data}
use Rattle.fts_tables.specs.FirstFault.{unless}
use Rattle.fts_tables.specs.SettingsData.{SettingsData, is_listed}
use Rattle.fts_tables.specs.Places.{is_same_place}
use Rattle.fts_tables.specs.declared.places.Place.{Place}
use Rattle.fts_joburl.specs.Urls.{surl_of}
use Rattle.fts_joburl.specs.declared.read.Surl.{Surl}
use Rattle.fts_joburl.specs.declared.fault.UrlFault.{UrlFault}
use Rattle.fts_jobdoc.specs.Json.{texts_under}
use Rattle.fts_jobdoc.specs.declared.ends.FileEnds.{FileEnds}
use Rattle.fts_jobdoc.specs.declared.fault.DocFault.{DocFault}
use Rattle.fts_jobdoc.specs.declared.fault.DocFault.TheVariants.{BadUrl}

-- the place that a URL names
abbrev pub place_in : Result Surl UrlFault → Result Place UrlFault
place_in (Ok surl) = Ok (record { endpoint = surl.endpoint; path = surl.path })
place_in (Err fault) = Err fault

-- the place that a text is the URL of, or the URL's fault
unfoldable pub place_read : List ℕ → Result Place UrlFault
place_read text = place_in (surl_of text)

-- what reading a URL gives: its place, or that it is refused
abbrev pub bad_url : Result Place UrlFault → Result Place DocFault
bad_url (Ok place) = Ok place
bad_url (Err fault) = Err (BadUrl fault)

-- a place that was read
abbrev pub place_kept : Result Place UrlFault → Option Place
place_kept (Ok place) = Some place
place_kept (Err fault) = None

-- the places that texts are the URLs of, in order
unfoldable pub places_of : List (List ℕ) → List Place
places_of texts = filter_map (λ text. place_kept (place_read text)) texts

-- a URL's fault, or else that of a later one
abbrev pub fault_or : Result Place UrlFault → Option UrlFault → Option UrlFault
fault_or (Ok place) later = later
fault_or (Err fault) later = Some fault

-- the fault of the first text that is no URL of a place
unfoldable pub first_url_fault : List (List ℕ) → Option UrlFault
first_url_fault [] = None
first_url_fault (text ∷ texts) = fault_or (place_read text) (first_url_fault texts)

-- the URLs of a file: its sources in order, then its destinations
abbrev pub urls_of : Data → List (List ℕ)
urls_of file = texts_under (codes "sources") file ++ texts_under (codes "destinations") file

-- where a file comes from, and where it goes to
unfoldable pub ends_of : Data → FileEnds
ends_of file = record { sources = places_of (texts_under (codes "sources") file); dests = places_of (texts_under (codes "destinations") file) }

-- a broken URL is a fault of the document
abbrev pub url_refused : Option UrlFault → Option DocFault
url_refused fault = option_map BadUrl fault

-- rule 8: the first broken URL of the files
unfoldable pub url_rule : List Data → Option DocFault
url_rule files = url_refused (first_url_fault (flat_map urls_of files))

-- a place on an endpoint that the settings don't list
abbrev pub is_elsewhere : SettingsData → Place → Bool
is_elsewhere settings place = not (is_listed settings.endpoints place.endpoint)

-- a file comes from or goes to an endpoint that the settings don't list
unfoldable pub has_unknown_endpoint : SettingsData → FileEnds → Bool
has_unknown_endpoint settings ends = list_any (is_elsewhere settings) ends.sources || list_any (is_elsewhere settings) ends.dests

-- a file has a source that is its destination too: the same endpoint and path
unfoldable pub has_same_url : FileEnds → Bool
has_same_url ends = list_any (λ dest. list_any (λ source. is_same_place source dest) ends.sources) ends.dests

-- a file's destination is the next file's source
unfoldable pub meets : FileEnds → FileEnds → Bool
meets ends next = list_all (λ dest. list_all (λ source. is_same_place dest source) next.sources) ends.dests

-- a file's destination isn't the next file's source, from this one on
abbrev pub breaks_from : FileEnds → List FileEnds → Bool
breaks_from ends [] = false
breaks_from ends (next ∷ later) = not (meets ends next) || breaks_from next later

-- a file's destination isn't the next file's source
abbrev pub breaks_chain : List FileEnds → Bool
breaks_chain [] = false
breaks_chain (ends ∷ later) = breaks_from ends later

-- what is read of some URLs, unless one is broken
abbrev pub places_read : List (List ℕ) → Result (List Place) DocFault
places_read texts = unless (url_refused (first_url_fault texts)) (places_of texts)

-- what is read of a file's URLs, unless one is broken
abbrev pub ends_read : Data → Result FileEnds DocFault
ends_read file = unless (url_refused (first_url_fault (urls_of file))) (ends_of file)

-- what is read of the URLs of all files, unless one is broken
abbrev pub all_ends_read : List Data → Result (List FileEnds) DocFault
all_ends_read files = unless (url_rule files) (map ends_of files)

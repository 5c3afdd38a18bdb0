-- The requests of a load: each submits one job with the copies of the next files, from the endpoint of the sources to that of the destinations.
use Rattle.std.specs.Prelude.{ℕ, ◌+◌, ◌-◌, ◌*◌, ◌%◌, List, ◌++◌, length, codes, decimal}
use Rattle.std.specs.List.{range_with_len, flat_map}

-- how many requests there are; they are numbered from 1
unfoldable pub request_count : ℕ
request_count = 20

-- how many files a job has
unfoldable pub files_of_job : ℕ
files_of_job = 100

-- what a job says of a file: where it goes to, and where it is
unfoldable pub file_text : List ℕ → List ℕ → ℕ → List ℕ
file_text source dest file =
    codes "{\"destinations\":[\"" ++ (dest ++ (codes "/load/d" ++ (decimal file ++ (codes "\"],\"sources\":[\"" ++ (source ++ (codes "/load/s" ++ (decimal file ++ codes "\"]}")))))))

-- the first file of a job
abbrev pub first_file : ℕ → ℕ
first_file job = files_of_job * (job - 1) + 1

-- a file behind others
abbrev pub next_text : List ℕ → List ℕ → ℕ → List ℕ
next_text source dest file = codes "," ++ file_text source dest file

-- so many files one after another, with commas between them, the first and those behind it
abbrev pub texts_behind : List ℕ → List ℕ → ℕ → ℕ → List ℕ
texts_behind source dest first others = file_text source dest first ++ flat_map (next_text source dest) (range_with_len (first + 1) others)

-- the document of a job, whose priority goes by its number
unfoldable pub document : List ℕ → List ℕ → ℕ → List ℕ
document source dest job =
    codes "{\"files\":[" ++ (texts_behind source dest (first_file job) (files_of_job - 1)
    ++ (codes "],\"params\":{\"overwrite\":true,\"priority\":" ++ (decimal (1 + job % 5) ++ codes "}}")))

-- a request with a document as its body
abbrev pub request_with : List ℕ → List ℕ
request_with body = codes "POST /jobs HTTP/1.1\r\nContent-Length: " ++ (decimal (length body) ++ (codes "\r\n\r\n" ++ body))

-- the request that submits a job
abbrev pub request : List ℕ → List ℕ → ℕ → List ℕ
request source dest job = request_with (document source dest job)

-- the requests of a load, one after another
abbrev pub requests : List ℕ → List ℕ → List ℕ
requests source dest = flat_map (request source dest) (range_with_len 1 request_count)

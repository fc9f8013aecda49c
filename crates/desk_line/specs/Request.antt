-- Requests, and how an input is cut into them.
use Rattle.std.specs.Prelude.{◌≡◌, ℕ, ◌≤◌, List, [], ◌∷◌, ◌++◌, length, Option, ◌<◌}
use Rattle.std.specs.List.{AllByRecursion}
use Rattle.louis_table.specs.Lines.{lines_of}
use Rattle.desk_line.specs.declared.read.Head.{Head}
use Rattle.desk_line.specs.declared.read.Head.TheVariants as heads
use Rattle.desk_line.specs.declared.directive.Directive.{Directive}
use Rattle.desk_line.specs.declared.request.Request.{Request}
use Rattle.desk_line.specs.declared.request.Request.TheVariants.{Do, Ask}
use Rattle.desk_line.specs.Commands.{announced}
use Rattle.desk_line.specs.HeadLine.{Says}
use Rattle.desk_line.specs.Lines.{IsShort, after_first_line}

-- ---- what follows a head line

-- how many lines follow what a head line says
abbrev pub block_lines : Head → ℕ
block_lines (heads.Do directive expect) = (announced directive).lines
block_lines (heads.Ask query) = 0

-- how many lines a head line takes: as many as it says, or none if it says nothing
pub data Takes (line : List ℕ) (count : ℕ) : Type 0 where
  said : (head : Head) → Says line head → count ≡ block_lines head → Takes line count
  unsaid : ((head : Head) → ¬ Says line head) → count ≡ 0 → Takes line count

-- ---- the requests of an input

-- a whole request: a head line and exactly as many lines after it as it takes, each ended by a line
-- feed
pub record IsWhole (request : List ℕ) : Type 0 where
  pub line : List ℕ
  pub block : List (List ℕ)
  pub lines : lines_of request ≡ line ∷ block
  pub takes : Takes line (length block)
  pub front : List ℕ
  pub ends : request ≡ front ++ 10 ∷ []

-- a request that the end of the input ends: the last line may lack its line feed, and lines that
-- the head line takes may be missing
pub record IsLast (request : List ℕ) : Type 0 where
  pub line : List ℕ
  pub block : List (List ℕ)
  pub lines : lines_of request ≡ line ∷ block
  pub count : ℕ
  pub takes : Takes line count
  pub most : length block ≤ count

-- the bytes are a request, with these bytes later in the input
pub data IsRequestBefore (later request : List ℕ) : Type 0 where
  whole : IsWhole request → IsRequestBefore later request
  last : later ≡ [] → IsLast request → IsRequestBefore later request

-- the input is these requests, one after another
abbrev pub Requests : List ℕ → List (List ℕ) → Type 0
Requests input [] = input ≡ []
Requests input (request ∷ requests) =
    (later : List ℕ) × (input ≡ request ++ later) × IsRequestBefore later request × Requests later requests

-- these requests stand whole in bytes after which a read failed; what follows the last of them
-- begins with no whole request
abbrev pub WholeRequests : List ℕ → List (List ℕ) → Type 0
WholeRequests bytes [] = (request later : List ℕ) → bytes ≡ request ++ later → ¬ IsWhole request
WholeRequests bytes (request ∷ requests) =
    (later : List ℕ) × (bytes ≡ request ++ later) × IsWhole request × WholeRequests later requests

-- ---- what a request asks

-- the request that a head line and the bytes of the lines after it give
abbrev pub request_of : Head → List ℕ → Request
request_of (heads.Do directive expect) text = Do ((announced directive).command text) expect
request_of (heads.Ask query) text = Ask query

-- the bytes are this request: a head line that says it, and exactly the lines that it takes, none
-- of them too long
pub record Reads (bytes : List ℕ) (request : Request) : Type 0 where
  pub line : List ℕ
  pub block : List (List ℕ)
  pub head : Head
  pub lines : lines_of bytes ≡ line ∷ block
  pub says : Says line head
  pub whole : length block ≡ block_lines head
  pub short : AllByRecursion IsShort block
  pub is : request ≡ request_of head (after_first_line bytes)

-- the bytes are no request
abbrev pub IsNoRequest : List ℕ → Type 0
IsNoRequest bytes = (request : Request) → ¬ Reads bytes request

-- the bytes are a head line that says this, and then this text
pub record HasHead (bytes : List ℕ) (head : Head) (text : List ℕ) : Type 0 where
  pub line : List ℕ
  pub block : List (List ℕ)
  pub lines : lines_of bytes ≡ line ∷ block
  pub says : Says line head
  pub rest : text ≡ after_first_line bytes

-- the bytes begin with the head line of a command that lines follow, whatever these are
pub record AsksForMemory (bytes : List ℕ) : Type 0 where
  pub line : List ℕ
  pub block : List (List ℕ)
  pub directive : Directive
  pub expect : Option ℕ
  pub lines : lines_of bytes ≡ line ∷ block
  pub says : Says line (heads.Do directive expect)
  pub some : 0 < (announced directive).lines

-- What is read of fields by a grammar is what they say, what they say is read, and values are written as fields that say what they give.
use Rattle.std.proofs.Common.{◌≡◌, ℕ, List, [], ◌∷◌, ◌++◌, Some, option_map, refl, sym, ap, subst, ◌∙◌, append_assoc, arith}
use Rattle.std.specs.List.{AllByRecursion}
use Rattle.desk_line.specs.Fields.{fields_of}
use Rattle.desk_line.specs.Operands.{Fit, FitsField, Flag, Grammar, Kind, Last, Lines, Look, Name, Nothing, Number, Place, Rest, Say, StandsFor, Then, Value, Values, field_of, given, written}
use Rattle.desk_line.specs.ReadingSteps.{first_of, found, read}
use Rattle.desk_line.specs.ReplyLines.{shown_text}
use Rattle.desk_line.proofs.HeadLines.{some-is}
use Rattle.desk_line.proofs.OperandLaws.{anchor-found, anchor-read, count-found, count-read, flag-found, flag-read, name-found, name-read, number-found, number-read, style-found, style-read}
use Rattle.desk_line.proofs.WrittenFields.{IsClosed, IsLine, anchor-closed, anchor-written, flag-closed, flag-written, line-closed, line-with-text, name-closed, name-some, name-spelled, number-closed, number-written, rest-spelled, style-closed, style-written, text-plain}
use Rattle.louis_table.proofs.CharacterLaws.{map_some, and_then_some}

-- ---- one field

value-read : (kind : Kind) (field : List ℕ) (value : Value kind) → found kind field ≡ Some value → StandsFor kind field value
value-read Number field value e = number-read field value e
value-read Lines field value e = count-read field value e
value-read Name field value e = name-read field value e
value-read Place field value e = anchor-read field value e
value-read Look field value e = style-read field value e
value-read Flag field value e = flag-read field value e

value-found : (kind : Kind) (field : List ℕ) (value : Value kind) → StandsFor kind field value → found kind field ≡ Some value
value-found Number field value h = number-found field value h
value-found Lines field value h = count-found field value h.0 h.1
value-found Name field value h = name-found field value h
value-found Place field value h = anchor-found field value h
value-found Look field value h = style-found field value h
value-found Flag field value h = flag-found field value h

-- ---- fields

pub read-says : {A : Type 0} (grammar : Grammar A) (fields : List (List ℕ)) (said : A) → read grammar fields ≡ Some said → Say grammar fields said
unfolding first_of
read-says Nothing fields said e = absurd cc
read-says (Last value) [] said e = (refl, sym (some-is value said e))
read-says (Last value) (f ∷ fields) said e = absurd cc
read-says (Rest make) fields said e = sym (some-is _ said e)
read-says (Then kind more) [] said e = absurd cc
read-says (Then kind more) (f ∷ fields) said e =
    let h = and_then_some (λ (first : Value kind × List (List ℕ)). read (more first.0) first.1) (option_map (λ (v : Value kind). (let p : Value kind × List (List ℕ) = (v, fields) in p)) (found kind f)) said e in
    let m = map_some (λ (v : Value kind). (let p : Value kind × List (List ℕ) = (v, fields) in p)) (found kind f) h.0 h.1 in
    let others : read (more m.0) fields ≡ Some said = subst (λ (p : Value kind × List (List ℕ)). read (more p.0) p.1 ≡ Some said) (sym m.2) h.2 in
    (f, fields, m.0, refl, value-read kind f m.0 m.1, read-says (more m.0) fields said others)

pub says-read : {A : Type 0} (grammar : Grammar A) (fields : List (List ℕ)) (said : A) → Say grammar fields said → read grammar fields ≡ Some said
unfolding first_of
says-read Nothing fields said h = absurd h
says-read (Last value) fields said (none, is) = ap (read (Last value)) none ∙ ap Some (sym is)
says-read (Rest make) fields said is = ap Some (sym is)
says-read (Then kind more) fields said (first, others, value, are, stands, says) =
    ap (read (Then kind more)) are ∙ (rw (value-found kind first value stands) (says-read (more value) others said says))

-- ---- how values are written

field-closed : (kind : Kind) (value : Value kind) → FitsField kind value → IsClosed (field_of kind value)
field-closed Number number h = number-closed number h
field-closed Lines count h = number-closed count (omega arith)
field-closed Name name h = name-closed name h
field-closed Place anchor h = anchor-closed anchor h
field-closed Look style h = style-closed style
field-closed Flag set h = flag-closed set

field-written : (kind : Kind) (value : Value kind) → FitsField kind value → StandsFor kind (field_of kind value) value
field-written Number number h = number-written number h
field-written Lines count h = (number-written count (omega arith), h)
field-written Name name h = (name-some name h, sym (name-spelled name h))
field-written Place anchor h = anchor-written anchor h
field-written Look style h = style-written style
field-written Flag set h = flag-written set

-- the fields that are written, with those of the text
abbrev pub spread : {A : Type 0} (grammar : Grammar A) → Values grammar → List (List ℕ)
spread Nothing values = []
spread (Last value) values = []
spread (Rest make) text = fields_of (shown_text text)
spread (Then kind more) values = field_of kind values.0 ∷ spread (more values.0) values.1

pub spread-says : {A : Type 0} (grammar : Grammar A) (values : Values grammar) → Fit grammar values → Say grammar (spread grammar values) (given grammar values)
spread-says Nothing values fit = absurd fit
spread-says (Last value) values fit = (refl, refl)
spread-says (Rest make) text fit = ap make (sym (rest-spelled text fit))
spread-says (Then kind more) values fit =
    (field_of kind values.0, spread (more values.0) values.1, values.0, refl, field-written kind values.0 fit.0, spread-says (more values.0) values.1 fit.1)

all-closed : (fields : List (List ℕ)) (last : List ℕ) → AllByRecursion IsClosed fields → IsClosed last → AllByRecursion IsClosed (fields ++ last ∷ [])
all-closed [] last h l = (l, tt)
all-closed (f ∷ fields) last h l = (h.0, all-closed fields last h.1 l)

-- after other fields they make a line
pub line-written : {A : Type 0} (grammar : Grammar A) (values : Values grammar) → Fit grammar values → (fields : List (List ℕ)) (last : List ℕ)
    → AllByRecursion IsClosed fields → IsClosed last → IsLine (fields ++ last ∷ written grammar values) (fields ++ last ∷ spread grammar values)
line-written Nothing values fit fields last h l = absurd fit
line-written (Last value) values fit fields last h l = line-closed fields last h l
line-written (Rest make) text fit fields last h l =
    subst (λ (all : List (List ℕ)). IsLine (fields ++ last ∷ shown_text text ∷ []) all) (append_assoc fields (last ∷ []) (fields_of (shown_text text)))
    (subst (λ (line : List (List ℕ)). IsLine line ((fields ++ last ∷ []) ++ fields_of (shown_text text))) (append_assoc fields (last ∷ []) (shown_text text ∷ []))
    (line-with-text (fields ++ last ∷ []) (shown_text text) (all-closed fields last h l) (text-plain text fit)))
line-written (Then kind more) values fit fields last h l =
    let field = field_of kind values.0 in
    let others = written (more values.0) values.1 in
    let all = spread (more values.0) values.1 in
    subst (λ (said : List (List ℕ)). IsLine (fields ++ last ∷ field ∷ others) said) (append_assoc fields (last ∷ []) (field ∷ all))
    (subst (λ (line : List (List ℕ)). IsLine line ((fields ++ last ∷ []) ++ field ∷ all)) (append_assoc fields (last ∷ []) (field ∷ others))
    (line-written (more values.0) values.1 fit.1 (fields ++ last ∷ []) field (all-closed fields last h l) (field-closed kind values.0 fit.0)))

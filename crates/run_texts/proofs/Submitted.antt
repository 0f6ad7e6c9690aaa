-- What the entries of a history submit.
use Rattle.std.proofs.Common.{◌≡◌, ℕ, ◌≤◌, List, [], ◌∷◌, ◌++◌, length, map, take, Option, refl, ap, ◌∙◌}
use Rattle.std.specs.List.{filter_map, flat_map, cons_option}
use Rattle.std.proofs.lemmas.List.{take_all}
use Rattle.tree_types.specs.declared.entry.Entry.{Entry}
use Rattle.tree_types.specs.declared.entry.Entry.TheVariants.{Submit, Write, Create, Finish, File, Release, Save, Tick}
use Rattle.law.specs.Documents.{Text}
use Rattle.law.specs.Contents.{Story}
use Rattle.run_laws.specs.Submissions.{submitted_name, submitted}
use Rattle.run_texts.specs.RunTexts.{workflow_text, trees_text}
use Rattle.run_texts.specs.Inside.Trees.{text_by}

filter_map-map : {A B C : Type 0} (f : B → Option C) (g : A → B) (xs : List A) → filter_map f (map g xs) ≡ filter_map (λ x. f (g x)) xs
filter_map-map f g [] = refl
filter_map-map {A} {B} {C} f g (x ∷ xs) = ap (λ (cs : List C). cons_option (f (g x)) cs) (filter_map-map f g xs)

pub names_by : (h : Story) (entries : List Entry) → entries ≡ map (λ e. e.entry) h.events → filter_map submitted_name entries ≡ submitted h
names_by h entries same = ap (λ (es : List Entry). filter_map submitted_name es) same ∙ filter_map-map submitted_name (λ e. e.entry) h.events

texts_by : (h : Story) (entries : List Entry) → flat_map (text_by h) entries ≡ flat_map (workflow_text h) (filter_map submitted_name entries)
texts_by h [] = refl
texts_by h (Submit w old facts ∷ es) = ap (λ (t : List ℕ). workflow_text h w ++ t) (texts_by h es)
texts_by h (Write w v facts ∷ es) = texts_by h es
texts_by h (Create w n p b ∷ es) = texts_by h es
texts_by h (Finish w n o ∷ es) = texts_by h es
texts_by h (File l k r ∷ es) = texts_by h es
texts_by h (Release l k ∷ es) = texts_by h es
texts_by h (Save c k w o t ∷ es) = texts_by h es
texts_by h (Tick t ∷ es) = texts_by h es

-- the texts of the workflows that the entries submit are those of the workflows that were submitted
trees_by : (h : Story) (entries : List Entry) → entries ≡ map (λ e. e.entry) h.events → flat_map (text_by h) entries ≡ trees_text h
trees_by h entries same = texts_by h entries ∙ ap (λ (ws : List Text). flat_map (workflow_text h) ws) (names_by h entries same)

-- the end of the loop over the entries
pub trees_ended : (h : Story) (es : List Entry) (i : ℕ) (text : List ℕ) → length es ≤ i → es ≡ map (λ e. e.entry) h.events → text ≡ flat_map (text_by h) (take i es) → text ≡ trees_text h
trees_ended h es i text le same before = before ∙ ap (λ (xs : List Entry). flat_map (text_by h) xs) (take_all i es le) ∙ trees_by h es same

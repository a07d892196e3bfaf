-- Lines, worked out by hand from the grammar.
use Rattle.std.proofs.Common.{pos, [], ◌∷◌, codes, true, refl, arith}
use Rattle.std.specs.Fmt.{digits}
use Rattle.base_kinds.specs.declared.operation.Act.TheVariants as acts
use Rattle.base_kinds.specs.declared.fill.Fill.TheVariants as fills
use Rattle.base_kinds.specs.declared.request.Span.TheVariants as spans
use Rattle.base_kinds.specs.declared.request.SubMode.TheVariants as sub_modes
use Rattle.base_kinds.specs.worked.Samples.{plain}
use Rattle.path_core.specs.PathText.{IsPathText}
use Rattle.script_text.specs.declared.keywords.Keyword.TheVariants as keywords
use Rattle.script_text.specs.declared.line.Line.TheVariants as lines
use Rattle.script_text.specs.Words.{IsAuthor}
use Rattle.script_text.specs.Grammar.{IsLine}
use Rattle.plain_texts.proofs.NameTexts.{name_is_utf8}

author_1 : IsAuthor (codes "1") 1
unfolding digits
author_1 = (omega arith, omega arith, refl)

path_a : IsPathText (codes "/a") (plain (codes "a") ∷ [])
path_a = record { elems = (record { some_name = λ none. absurd (cc); name = name_is_utf8 (codes "a") refl; keys = tt; rising = refl }, tt); spelled = refl }

-- a trial without a duration
trial_line : IsLine (codes "trial 1 t -") (lines.Trial 1 (codes "t") spans.Absent)
trial_line = record {
  short = omega arith;
  said = record {
    value = keywords.Trial;
    rest = codes "1 t -";
    front = record { word = codes "trial"; whole = refl; is = refl };
    next = record {
      value = 1;
      rest = codes "t -";
      front = record { word = codes "1"; whole = refl; is = author_1 };
      next = record {
        value = codes "t";
        rest = codes "-";
        front = record { word = codes "t"; whole = refl; is = record { utf8 = name_is_utf8 (codes "t") refl; spelled = refl } };
        next = record { value = spans.Absent; is = refl; made = refl };
      };
    };
  };
}

-- an empty id, and more seconds than are read
extend_line : IsLine (codes "extend 1  9223372036854775808") (lines.Extend 1 [] (spans.Of (pos 9223372036854775807) (pos 0)))
unfolding digits
extend_line = record {
  short = omega arith;
  said = record {
    value = keywords.Extend;
    rest = codes "1  9223372036854775808";
    front = record { word = codes "extend"; whole = refl; is = refl };
    next = record {
      value = 1;
      rest = codes " 9223372036854775808";
      front = record { word = codes "1"; whole = refl; is = author_1 };
      next = record {
        value = [];
        rest = codes "9223372036854775808";
        front = record { word = []; whole = refl; is = record { utf8 = ([], (refl, refl)); spelled = refl } };
        next = record { value = spans.Of (pos 9223372036854775807) (pos 0); is = (record { number = 9223372036854775808; is = (omega arith, refl); bounded = refl }, refl); made = refl };
      };
    };
  };
}

-- a value without octets
update_line : IsLine (codes "update /a ") (lines.Add acts.Update (plain (codes "a") ∷ []) [])
update_line = record {
  short = omega arith;
  said = record {
    value = keywords.Update;
    rest = codes "/a ";
    front = record { word = codes "update"; whole = refl; is = refl };
    next = record {
      value = plain (codes "a") ∷ [];
      rest = [];
      front = record { word = codes "/a"; whole = refl; is = path_a };
      next = record { value = []; is = refl; made = refl };
    };
  };
}

sub_line : IsLine (codes "sub /a sample 5 6 1") (lines.Sub (record { path = plain (codes "a") ∷ []; mode = sub_modes.Sample; interval = 5; suppress = true; heartbeat = 6 }))
unfolding digits
sub_line = record {
  short = omega arith;
  said = record {
    value = keywords.Sub;
    rest = codes "/a sample 5 6 1";
    front = record { word = codes "sub"; whole = refl; is = refl };
    next = record {
      value = plain (codes "a") ∷ [];
      rest = codes "sample 5 6 1";
      front = record { word = codes "/a"; whole = refl; is = path_a };
      next = record {
        value = sub_modes.Sample;
        rest = codes "5 6 1";
        front = record { word = codes "sample"; whole = refl; is = refl };
        next = record {
          value = 5;
          rest = codes "6 1";
          front = record { word = codes "5"; whole = refl; is = (omega arith, refl) };
          next = record {
            value = 6;
            rest = codes "1";
            front = record { word = codes "6"; whole = refl; is = (omega arith, refl) };
            next = record { value = true; is = refl; made = refl };
          };
        };
      };
    };
  };
}

stop_line : IsLine (codes "stop 0 255") (lines.Stop 0 (fills.Octet 255))
unfolding digits
stop_line = record {
  short = omega arith;
  said = record {
    value = keywords.Stop;
    rest = codes "0 255";
    front = record { word = codes "stop"; whole = refl; is = refl };
    next = record {
      value = 0;
      rest = codes "255";
      front = record { word = codes "0"; whole = refl; is = (omega arith, refl) };
      next = record { value = fills.Octet 255; is = (omega arith, refl); made = refl };
    };
  };
}

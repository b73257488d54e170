mod ChainFacts
mod MentionFacts

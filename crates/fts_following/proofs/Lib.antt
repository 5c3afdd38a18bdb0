mod MadeJournals
